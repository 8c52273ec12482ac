use Rattle.std.proofs.Common.{◌≡◌, ◌≤◌, ◌+◌, ◌-◌, ◌^◌, ℕ, [], get_or, length}
use Rattle.numbered_walks.proofs.owners.grow.Given as goal

abbrev pub invariant-loop-alloc : goal.invariant-loop-alloc
invariant-loop-alloc l = record {
  rows : (e : ℕ) → get_or l.rows.items e [] ≡ get_or l.initial.rows.items e [];
  small : length l.rows.items ≤ 2 ^ 32;
}

abbrev pub decreases-loop-alloc : goal.decreases-loop-alloc
decreases-loop-alloc l = l.place + 1 - length l.rows.items
