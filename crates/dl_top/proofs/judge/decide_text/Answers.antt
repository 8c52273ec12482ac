use Rattle.dl_top.proofs.Judging.{at_network, decides}
use Rattle.dl_top.proofs.Walks.{at_short, is_verdict}
use Rattle.dl_top.specs.Judgement.{NetworkDecides, TextCallsFor}
use Rattle.dl_top.proofs.judge.decide_text.Goals as goal

pub returns-in_err-network : goal.returns-in_err-network
returns-in_err-network c = at_network c.args.text.now c.args.job.now c.from_residual.result _ c.from_residual.ensures.1 c.in_err-network.ensures.told

pub returns-in_err-verdict : goal.returns-in_err-verdict
returns-in_err-verdict c = at_short (TextCallsFor c.args.text.now c.args.job.now) c.from_residual-in_err-verdict.result c.from_residual-in_err-verdict.ensures.1

pub returns : goal.returns
returns c =
    let network = c.in_ok-network.network in
    decides c.args.text.now c.args.job.now network c.in_ok-verdict.verdict c.into_program.result c.in_ok-network.ensures.ok c.into_program.ensures
    (is_verdict (NetworkDecides c.args.job.now network) c.decide_job.result c.in_ok-verdict.verdict c.decide_job.ensures c.in_ok-verdict.ensures)
