use Rattle.value_operators.proofs.Prelude.{◌≡◌, numbers_from}
use Rattle.value_operators.proofs.sets.numbers_on.Given as goal

-- the numbers so far
abbrev pub invariant-loop-place : goal.invariant-loop-place
invariant-loop-place l = l.atoms ≡ numbers_from l.first l.place
