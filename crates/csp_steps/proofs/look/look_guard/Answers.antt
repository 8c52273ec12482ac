use Rattle.csp_steps.proofs.Prelude.{Ok, List, ap, sym, ◌∙◌, subst, steps_of, tree_at, IsListing, StepTo}
use Rattle.csp_program.specs.declared.processes.Proc.TheVariants as proc
use Rattle.csp_steps.proofs.Computing.{value_passed}
use Rattle.csp_steps.proofs.Forms.{guard_false, guard_steps, guard_true}
use Rattle.csp_steps.proofs.look.look_guard.Goals as goal

pub returns-in_err-holds : goal.returns-in_err-holds
returns-in_err-holds c =
    λ trees within. value_passed _ _ _ _ _ c.from_residual.ensures.1 c.in_err-holds.ensures
    (λ k e. guard_steps c.args.program.now c.args.c.now (tree_at trees c.args.id) e)

pub returns-then-holds : goal.returns-then-holds
returns-then-holds c = λ trees within. guard_true c.args.program.now trees c.args.c.now c.args.id within (c.in_ok-holds.ensures ∙ ap (λ b. Ok b) c.if-holds.true)

pub returns : goal.returns
returns c =
    λ trees within. subst (λ (ss : List StepTo). IsListing trees ss (steps_of c.args.program.now (proc.Guard c.args.c.now (tree_at trees c.args.id)))) (sym c.new-none.ensures)
    (guard_false c.args.program.now trees c.args.c.now (tree_at trees c.args.id) (c.in_ok-holds.ensures ∙ ap (λ b. Ok b) c.if-holds.false))
