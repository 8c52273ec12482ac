use Rattle.dl_top.proofs.Walks.{answered}
use Rattle.dl_top.specs.Judgement.{TextCallsFor}
use Rattle.dl_top.proofs.judge.answer_text.Goals as goal

pub returns : goal.returns
returns c = answered (TextCallsFor c.args.text.now c.args.job.now) c.decide_text.result c.settle.result c.decide_text.ensures c.settle.ensures
