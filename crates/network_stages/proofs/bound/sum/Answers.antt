use Rattle.network_stages.proofs.HeightSums.{one_sum}
use Rattle.network_stages.proofs.LowHeights.{still_fits}
use Rattle.network_stages.proofs.bound.sum.Goals as goal

pub with_bound-bound-requires : goal.with_bound-bound-requires
with_bound-bound-requires c = still_fits _ _ _ _ c.loop-table-test.true c.table-item.is c.loop-table.invariant c.requires

pub loop-table-preserved : goal.loop-table-preserved
loop-table-preserved c = one_sum _ _ _ _ _ c.loop-table-test.true c.table-item.is c.loop-table.invariant c.with_bound-bound.ensures
