use Rattle.value_operators.proofs.Prelude.{◌≡◌, drop, nat_eq, row_count}
use Rattle.value_operators.proofs.numbers.has_empty.Given as goal

-- what is left decides
abbrev pub invariant-loop-set : goal.invariant-loop-set
invariant-loop-set l = nat_eq (row_count l.sets) 0 ≡ nat_eq (row_count (drop l.set-index l.sets)) 0
