use Rattle.hidden_bounds.proofs.Prelude.{◌≡◌, take, greatest}
use Rattle.hidden_bounds.proofs.own_graph.greatest_of.Given as goal

abbrev pub invariant-loop-number : goal.invariant-loop-number
invariant-loop-number l = l.most ≡ greatest (take l.number-index l.numbers)
