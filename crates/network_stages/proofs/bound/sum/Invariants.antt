use Rattle.network_stages.proofs.Prelude.{◌≡◌, take, sum_of_greatest}
use Rattle.network_stages.proofs.HeightSums.{all_heights}
use Rattle.network_stages.proofs.bound.sum.Given as goal

abbrev pub invariant-loop-table : goal.invariant-loop-table
invariant-loop-table l = l.bound ≡ sum_of_greatest (all_heights (take l.table-index l.tables))
