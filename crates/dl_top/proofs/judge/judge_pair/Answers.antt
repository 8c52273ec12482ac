use Rattle.dl_top.proofs.Prelude.{IfOk-weaker, TextsCompare}
use Rattle.dl_top.proofs.Promising.{texts_conform, texts_match}
use Rattle.dl_top.proofs.Walks.{answered}
use Rattle.dl_top.proofs.judge.judge_pair.Goals as goal

pub returns-clause-answer : goal.returns-clause-answer
returns-clause-answer c = answered (TextsCompare c.args.text.now c.args.specification.now) c.compare_texts.result c.settle.result c.compare_texts.ensures c.settle.ensures

pub returns-clause-conformed : goal.returns-clause-conformed
returns-clause-conformed c =
    IfOk-weaker c.settle.result _ _ (texts_conform c.args.text.now c.args.specification.now)
    (answered (TextsCompare c.args.text.now c.args.specification.now) c.compare_texts.result c.settle.result c.compare_texts.ensures c.settle.ensures)

pub returns-clause-matching : goal.returns-clause-matching
returns-clause-matching c =
    IfOk-weaker c.settle.result _ _ (λ a calls matching. texts_match c.args.text.now c.args.specification.now a matching calls)
    (answered (TextsCompare c.args.text.now c.args.specification.now) c.compare_texts.result c.settle.result c.compare_texts.ensures c.settle.ensures)
