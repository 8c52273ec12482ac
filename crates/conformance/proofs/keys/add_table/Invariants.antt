use Rattle.conformance.proofs.Prelude.{◌≡◌, ◌++◌, drop, slice_index, flat_map, node_code}
use Rattle.conformance.proofs.keys.add_table.Given as goal

abbrev pub invariant-loop-node : goal.invariant-loop-node
invariant-loop-node l = l.key ++ flat_map (node_code (slice_index l.places)) (drop l.node-index l.nodes) ≡ l.initial.key ++ flat_map (node_code (slice_index l.places)) l.nodes
