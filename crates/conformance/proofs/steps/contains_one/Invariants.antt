use Rattle.conformance.proofs.Prelude.{◌<◌, ℕ, [], get_or, IsWithin}
use Rattle.conformance.proofs.steps.contains_one.Given as goal

abbrev pub invariant-loop-other : goal.invariant-loop-other
invariant-loop-other l = (k : ℕ) → k < l.other-index → IsWithin (get_or l.others k []) l.set → ⊥
