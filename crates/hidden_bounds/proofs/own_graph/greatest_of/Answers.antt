use Rattle.hidden_bounds.proofs.OwnGraphs.{one_greatest}
use Rattle.hidden_bounds.proofs.own_graph.greatest_of.Goals as goal

pub loop-number-preserved : goal.loop-number-preserved
loop-number-preserved c = one_greatest c.args.numbers.now _ _ _ _ c.loop-number-test.true c.loop-number.invariant c.larger-most.ensures
