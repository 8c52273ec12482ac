use Rattle.dl_top.proofs.Prelude.{inr, ap, TextIsShown}
use Rattle.report.specs.declared.answer.Answer.TheVariants as answer
use Rattle.dl_top.proofs.Judging.{at_script}
use Rattle.dl_top.proofs.Walks.{at_short}
use Rattle.dl_top.proofs.judge.show_text.Goals as goal

pub returns-in_err-script : goal.returns-in_err-script
returns-in_err-script c = at_script c.args.text.now c.from_residual.result _ c.from_residual.ensures.1 c.in_err-script.ensures.told

pub returns-in_err-text : goal.returns-in_err-text
returns-in_err-text c = at_short (TextIsShown c.args.text.now) c.from_residual-in_err-text.result c.from_residual-in_err-text.ensures.1

pub returns : goal.returns
returns c = inr (c.in_ok-script.script, c.in_ok-script.ensures.ok, ap answer.Shown c.in_ok-text.ensures)
