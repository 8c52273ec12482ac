-- Marks of nodes: numbers that are equal exactly where the acceptances are.
use Rattle.std.specs.Prelude.{◌≡◌, ◌↔◌, ◌<◌, ℕ, List, length, slice_index}
use Rattle.csp_tables.specs.Table.{Node, node_at}

pub record AreMarksOf (nodes : List Node) (marks : List ℕ) : Type 0 where
  pub one_each : length marks ≡ length nodes
  pub exact : (i j : ℕ) → i < length nodes → j < length nodes → (slice_index marks i ≡ slice_index marks j) ↔ ((node_at nodes i).accept ≡ (node_at nodes j).accept)
