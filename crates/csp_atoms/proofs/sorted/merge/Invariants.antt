use Rattle.csp_atoms.proofs.Prelude.{◌≡◌, ◌+◌, ◌++◌, length, IsRising, result_of}
use Rattle.csp_atoms.proofs.sorted.merge.Given as goal

abbrev pub invariant-loop-atom : goal.invariant-loop-atom
invariant-loop-atom l = record {
  first_rises : IsRising l.first;
  second_rises : IsRising l.second;
  so_far : l.made.items ++ result_of l.operation l.first l.second ≡ result_of l.operation l.left l.right;
}

abbrev pub decreases-loop-atom : goal.decreases-loop-atom
decreases-loop-atom l = length l.first + length l.second
