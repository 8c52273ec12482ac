use Rattle.network_stages.proofs.Prelude.{◌∙◌, false≢true}
use Rattle.network_stages.proofs.Stopping.{nodes_more}
use Rattle.network_stages.proofs.busy.empty_node.Goals as goal

pub loop-number-preserved : goal.loop-number-preserved
loop-number-preserved c =
    nodes_more c.args.part.now.table c.nodes-node-items.result.now c.loop-number.number c.node-item.result c.accept.result.now (c.nodes-node-items.ensures.value ∙ c.table.ensures) c.loop-number-test.true c.node-item.is c.accept.ensures
    (λ h. false≢true (c.if-has_empty.ensures.1 h)) c.loop-number.invariant
