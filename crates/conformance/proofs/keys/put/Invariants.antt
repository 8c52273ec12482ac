use Rattle.conformance.proofs.Prelude.{◌≡◌, ◌+◌, ◌-◌, ℕ, length, slice_index}
use Rattle.conformance.proofs.keys.put.Given as goal

abbrev pub invariant-loop-places : goal.invariant-loop-places
invariant-loop-places l = (e : ℕ) → slice_index l.places.items e ≡ slice_index l.initial.places.items e

abbrev pub decreases-loop-places : goal.decreases-loop-places
decreases-loop-places l = l.fn.event + 1 - length l.places.items
