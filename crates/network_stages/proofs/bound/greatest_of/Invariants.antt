use Rattle.network_stages.proofs.Prelude.{◌≡◌, take, greatest}
use Rattle.network_stages.proofs.bound.greatest_of.Given as goal

abbrev pub invariant-loop-number : goal.invariant-loop-number
invariant-loop-number l = l.most ≡ greatest (take l.number-index l.numbers)
