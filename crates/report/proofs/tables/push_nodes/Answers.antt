use Rattle.std.proofs.Common.{refl}
use Rattle.report.proofs.Nodes.{nodes_step}
use Rattle.report.proofs.tables.push_nodes.Goals as goal

pub loop-number-preserved : goal.loop-number-preserved
loop-number-preserved c = nodes_step c.args.content.now _ _ _ _ _ _ _ c.loop-number-test.true c.index-nodes-number.is refl c.loop-number.invariant c.in_ok-push_node.ensures
