use Rattle.csp_steps.proofs.Prelude.{Ok, ap, ◌∙◌, tree_at}
use Rattle.csp_steps.proofs.Computing.{value_passed}
use Rattle.csp_steps.proofs.Forms.{if_false, if_steps, if_true}
use Rattle.csp_steps.proofs.look.look_if.Goals as goal

pub returns-in_err-holds : goal.returns-in_err-holds
returns-in_err-holds c =
    λ trees first second. value_passed _ _ _ _ _ c.from_residual.ensures.1 c.in_err-holds.ensures
    (λ k e. if_steps c.args.program.now c.args.c.now (tree_at trees c.args.first) (tree_at trees c.args.second) e)

pub returns-then-holds : goal.returns-then-holds
returns-then-holds c = λ trees first second. if_true c.args.program.now trees c.args.c.now c.args.first c.args.second first (c.in_ok-holds.ensures ∙ ap (λ b. Ok b) c.if-holds.true)

pub returns : goal.returns
returns c = λ trees first second. if_false c.args.program.now trees c.args.c.now c.args.first c.args.second second (c.in_ok-holds.ensures ∙ ap (λ b. Ok b) c.if-holds.false)
