use Rattle.csp_steps.proofs.Prelude.{◌≡◌, Ok, List, ◌∙◌, subst, IfOk, Result, Field, tree_at, GivesLook}
use Rattle.csp_program.specs.declared.processes.Proc.TheVariants as proc
use Rattle.csp_steps.specs.declared.look.Look.TheVariants as look
use Rattle.csp_steps.proofs.Computing.{passed}
use Rattle.csp_steps.proofs.Forms.{prefix, prefix_fault}
use Rattle.csp_steps.proofs.look.look_prefix.Goals as goal

pub returns-in_err-steps-clause-look : goal.returns-in_err-steps-clause-look
returns-in_err-steps-clause-look c =
    λ head written h choice e from. subst (λ (fs : List Field). GivesLook c.args.filling.now.program.now c.prefix_steps.new.pool c.from_residual-in_err-steps.result (proc.Prefix head fs (tree_at c.args.pool.now c.args.filling.now.to)))
    (c.as_slice.ensures ∙ subst (λ (r : Result (List Field) _). IfOk r (λ fs. fs ≡ written)) c.in_ok-fields.was h)
    (passed _ _ _ _ _ c.from_residual-in_err-steps.ensures.1 c.in_err-steps.ensures.steps
    (λ k g. prefix_fault c.args.filling.now.program.now head c.as_slice.result.now (tree_at c.args.pool.now c.args.filling.now.to) c.args.filling.now.start.now choice k e from g))

pub returns-clause-look : goal.returns-clause-look
returns-clause-look c =
    λ head written h choice e from. subst (λ (fs : List Field). GivesLook c.args.filling.now.program.now c.prefix_steps.new.pool (Ok (look.Steps c.in_ok-steps.steps)) (proc.Prefix head fs (tree_at c.args.pool.now c.args.filling.now.to)))
    (c.as_slice.ensures ∙ subst (λ (r : Result (List Field) _). IfOk r (λ fs. fs ≡ written)) c.in_ok-fields.was h)
    (prefix c.args.filling.now.program.now c.prefix_steps.new.pool c.in_ok-steps.steps head c.as_slice.result.now (tree_at c.args.pool.now c.args.filling.now.to) c.args.filling.now.start.now choice e from c.in_ok-steps.ensures.steps)
