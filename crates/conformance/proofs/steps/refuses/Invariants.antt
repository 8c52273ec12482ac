use Rattle.conformance.proofs.Prelude.{◌<◌, ℕ, [], get_or, HasWithin}
use Rattle.conformance.proofs.steps.refuses.Given as goal

abbrev pub invariant-loop-set : goal.invariant-loop-set
invariant-loop-set l = (k : ℕ) → k < l.set-index → HasWithin l.others (get_or l.sets k [])
