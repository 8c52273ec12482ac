use Rattle.digraph.proofs.Prelude.{nat_lt, IsFirstBest}
use Rattle.digraph.proofs.circle.place_of_least.Given as goal

abbrev pub invariant-loop-k : goal.invariant-loop-k
invariant-loop-k l = IsFirstBest nat_lt l.ring l.k l.least
