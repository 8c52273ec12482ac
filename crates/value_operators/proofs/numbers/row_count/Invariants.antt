use Rattle.value_operators.proofs.Prelude.{◌≡◌, ◌≤◌, ◌*◌, ◌-◌, ◌^◌, min, drop, row_count}
use Rattle.value_operators.proofs.numbers.row_count.Given as goal

abbrev pub invariant-loop-set : goal.invariant-loop-set
invariant-loop-set l = record {
  within : l.count ≤ 2 ^ 64 - 1;
  so_far : min (l.count * row_count (drop l.set-index l.sets)) (2 ^ 64 - 1) ≡ min (row_count l.sets) (2 ^ 64 - 1);
}
