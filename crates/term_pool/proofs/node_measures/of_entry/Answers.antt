-- The number of a node is none above those of its own parts and of its places.
use Rattle.term_pool.proofs.Prelude.{arith, lower, entry_layer, layer_parts, own_free}
use Rattle.term_pool.proofs.NodeMeasures.{least_lower}
use Rattle.term_pool.proofs.node_measures.of_entry.Goals as goal

pub returns-clause-own : goal.returns-clause-own
returns-clause-own c =
    let node = c.node.ensures.least in
    let both = c.join.ensures.least in
    lower c.node.result.least c.of_own-own.result.least (own_free (entry_layer c.args.parts.now c.args.entry)) (omega (arith, node, both)) c.of_own-own.ensures.low

pub returns-clause-places : goal.returns-clause-places
returns-clause-places c =
    let node = c.node.ensures.least in
    let both = c.join.ensures.least in
    least_lower c.args.measures.now c.node.result.least c.of_places.result.least (layer_parts (entry_layer c.args.parts.now c.args.entry)) (omega (arith, node, both)) c.of_places.ensures.least
