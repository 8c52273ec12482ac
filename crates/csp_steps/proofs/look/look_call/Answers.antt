use Rattle.csp_steps.proofs.Prelude.{Ok, List, ap, sym, ◌∙◌, subst, Result, Value, arguments_in, steps_of, Gives, EvalFault, IsListing, StepTo}
use Rattle.csp_program.specs.declared.processes.Proc.TheVariants as proc
use Rattle.csp_steps.proofs.Computing.{passed, value_passed}
use Rattle.csp_steps.proofs.Forms.{call, call_fault, call_steps}
use Rattle.csp_steps.proofs.look.look_call.Goals as goal

pub returns-in_err-values-clause-look : goal.returns-in_err-values-clause-look
returns-in_err-values-clause-look c =
    λ args h. value_passed _ _ _ (arguments_in c.args.program.now args) _ c.from_residual.ensures.1
    (subst (λ (r : Result (List Value) EvalFault). Gives r (arguments_in c.args.program.now args)) c.in_err-values.was h) (λ k e. call_steps c.args.program.now c.args.def args e)

pub returns-in_err-to-clause-look : goal.returns-in_err-to-clause-look
returns-in_err-to-clause-look c =
    λ args h. let e = subst (λ (r : Result (List Value) EvalFault). Gives r (arguments_in c.args.program.now args)) c.in_ok-values.was h ∙ ap (λ vs. Ok vs) (sym c.as_slice.ensures) in
    passed _ _ _ _ _ c.from_residual-in_err-to.ensures.1 c.in_err-to.ensures.process
    (λ k g. call_fault c.args.program.now c.args.def args c.as_slice.result.now k e g)

pub returns-clause-look : goal.returns-clause-look
returns-clause-look c =
    λ args h. let e = subst (λ (r : Result (List Value) EvalFault). Gives r (arguments_in c.args.program.now args)) c.in_ok-values.was h ∙ ap (λ vs. Ok vs) (sym c.as_slice.ensures) in
    subst (λ (ss : List StepTo). IsListing c.enter.new.pool ss (steps_of c.args.program.now (proc.Call c.args.def args))) (sym c.in_ok-steps.ensures)
    (call c.args.program.now c.enter.new.pool c.args.def args c.as_slice.result.now c.in_ok-to.to e c.in_ok-to.ensures.process)
