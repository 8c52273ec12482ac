use Rattle.csp_steps.proofs.Prelude.{◌≡◌, take, number_of}
use Rattle.csp_steps.proofs.walk.number_of.Given as goal

abbrev pub invariant-loop-value : goal.invariant-loop-value
invariant-loop-value l = l.number ≡ number_of (take l.value-index l.values)
