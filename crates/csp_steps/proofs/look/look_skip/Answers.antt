use Rattle.csp_steps.proofs.Prelude.{List, sym, subst, steps_of, IsListing, StepTo}
use Rattle.csp_program.specs.declared.processes.Proc.TheVariants as proc
use Rattle.csp_steps.proofs.Forms.{skip}
use Rattle.csp_steps.proofs.Places.{found}
use Rattle.csp_steps.proofs.look.look_skip.Goals as goal

pub returns-clause-look : goal.returns-clause-look
returns-clause-look c =
    λ p. subst (λ (ss : List StepTo). IsListing c.put_ended.new.pool ss (steps_of p proc.Skip)) (sym c.in_ok-steps.ensures)
    (skip p c.put_ended.new.pool c.in_ok-to.to (found c.put_ended.new.pool c.in_ok-to.to proc.Ended c.in_ok-to.ensures.process))
