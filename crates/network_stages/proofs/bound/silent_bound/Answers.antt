use Rattle.network_stages.proofs.HeightSums.{bound_is}
use Rattle.network_stages.proofs.LowHeights.{few_silent}
use Rattle.network_stages.proofs.bound.silent_bound.Goals as goal

pub sum-requires : goal.sum-requires
sum-requires c = few_silent c.args.tables.now c.requires.few c.requires.are

pub returns : goal.returns
returns c = bound_is _ _ c.sum.ensures
