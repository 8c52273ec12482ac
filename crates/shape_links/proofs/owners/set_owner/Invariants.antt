use Rattle.shape_links.proofs.Prelude.{◌≡◌, ◌+◌, ◌-◌, ℕ, vec_len, slice_index}
use Rattle.shape_links.proofs.owners.set_owner.Given as goal

abbrev pub invariant-loop-owners : goal.invariant-loop-owners
invariant-loop-owners l = (e : ℕ) → slice_index l.owners.items e ≡ slice_index l.initial.owners.items e

abbrev pub decreases-loop-owners : goal.decreases-loop-owners
decreases-loop-owners l = l.event + 1 - vec_len l.owners
