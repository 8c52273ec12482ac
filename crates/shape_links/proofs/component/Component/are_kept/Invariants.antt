use Rattle.shape_links.proofs.Prelude.{ℕ, ◌<◌, [], IsTrue, get_or, is_possible, node_after, node_at, table_of, IsTurned}
use Rattle.shape_links.proofs.component.Component.are_kept.Given as goal

abbrev pub invariant-loop-node : goal.invariant-loop-node
invariant-loop-node l = (n e : ℕ) → n < l.node → IsTrue (is_possible (node_at (table_of l.self) n).next e) → IsTurned l.self.shape.now l.watched e (get_or l.odd n []) (get_or l.odd (node_after (table_of l.self) n e) [])
