use Rattle.network_stages.proofs.Prelude.{◌≡◌, ◌+◌, ◌-◌, ℕ, vec_len, owner_of}
use Rattle.network_stages.proofs.rows.keep_owner.Given as goal

abbrev pub invariant-loop-owners : goal.invariant-loop-owners
invariant-loop-owners l = (e : ℕ) → owner_of l.owners.items e ≡ owner_of l.initial.owners.items e

abbrev pub decreases-loop-owners : goal.decreases-loop-owners
decreases-loop-owners l = l.event + 1 - vec_len l.owners
