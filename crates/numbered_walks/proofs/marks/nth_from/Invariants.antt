use Rattle.numbered_walks.proofs.Prelude.{◌≡◌, ◌+◌, take, mark_count}
use Rattle.numbered_walks.proofs.marks.nth_from.Given as goal

abbrev pub invariant-loop-number : goal.invariant-loop-number
invariant-loop-number l = mark_count (take l.number l.marks) + l.left ≡ mark_count (take l.from l.marks) + l.initial.left
