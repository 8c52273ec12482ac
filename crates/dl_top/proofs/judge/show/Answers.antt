use Rattle.dl_top.proofs.Prelude.{IfOk-weaker, TextIsShown}
use Rattle.dl_top.proofs.Promising.{shown_completes, text_shown}
use Rattle.dl_top.proofs.Walks.{answered}
use Rattle.dl_top.proofs.judge.show.Goals as goal

pub returns-clause-answer : goal.returns-clause-answer
returns-clause-answer c = answered (TextIsShown c.args.text.now) c.show_text.result c.settle.result c.show_text.ensures c.settle.ensures

pub returns-clause-shown : goal.returns-clause-shown
returns-clause-shown c =
    IfOk-weaker c.settle.result _ _ (text_shown c.args.text.now) (answered (TextIsShown c.args.text.now) c.show_text.result c.settle.result c.show_text.ensures c.settle.ensures)

pub returns-clause-complete : goal.returns-clause-complete
returns-clause-complete c =
    IfOk-weaker c.settle.result _ _ (λ a calls script spelled. shown_completes c.args.text.now a script spelled calls)
    (answered (TextIsShown c.args.text.now) c.show_text.result c.settle.result c.show_text.ensures c.settle.ensures)
