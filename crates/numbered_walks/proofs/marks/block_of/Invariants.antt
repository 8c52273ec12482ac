use Rattle.numbered_walks.proofs.Prelude.{◌≡◌, ◌+◌, ◌*◌, take, mark_count}
use Rattle.numbered_walks.proofs.marks.block_of.Given as goal

abbrev pub invariant-loop-count : goal.invariant-loop-count
invariant-loop-count l = record {
  place : l.block ≡ l.count-index;
  left : mark_count (take (64 * l.block) l.marks) + l.left ≡ l.place;
}
