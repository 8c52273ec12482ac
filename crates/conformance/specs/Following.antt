-- A table that follows the events of a run. (For private contracts: no public one cites this.)
use Rattle.std.specs.Prelude.{ℕ, List, length, if◌then◌else◌}
use Rattle.csp_base.specs.Members.{has}
use Rattle.csp_tables.specs.Table.{Node, is_possible, node_after, node_at}

-- the events that are watched, and the table that follows them
pub record Following : Type 0 where
  pub alphabet : List ℕ
  pub table : List Node

-- An event of the alphabet leads to the next node; where it is not possible, past the table's end, where nothing is. Others leave the table alone.
abbrev pub follow_step : List ℕ → List Node → ℕ → ℕ → ℕ
follow_step alphabet table state e =
    if has alphabet e then (if is_possible (node_at table state).next e then node_after table state e else length table) else state
