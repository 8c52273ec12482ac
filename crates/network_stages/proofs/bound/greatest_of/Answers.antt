use Rattle.network_stages.proofs.HeightSums.{one_greatest}
use Rattle.network_stages.proofs.bound.greatest_of.Goals as goal

pub loop-number-preserved : goal.loop-number-preserved
loop-number-preserved c = one_greatest c.args.numbers.now _ _ _ _ c.loop-number-test.true c.loop-number.invariant c.larger-most.ensures
