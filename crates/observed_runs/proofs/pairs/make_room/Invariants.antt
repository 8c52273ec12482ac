use Rattle.observed_runs.proofs.Prelude.{◌≡◌, ◌+◌, ◌-◌, ℕ, length, is_marked}
use Rattle.observed_runs.proofs.pairs.make_room.Given as goal

abbrev pub invariant-loop-alloc : goal.invariant-loop-alloc
invariant-loop-alloc l = (n s : ℕ) → is_marked l.seen.items n s ≡ is_marked l.initial.seen.items n s

abbrev pub decreases-loop-alloc : goal.decreases-loop-alloc
decreases-loop-alloc l = l.first + 1 - length l.seen.items
