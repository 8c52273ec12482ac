-- Nodes with the same acceptances. (For private contracts: no public one cites this.)
use Rattle.std.specs.Prelude.{◌≡◌, ◌<◌, ◌↔◌, ℕ, List, length, get_or}
use Rattle.csp_tables.specs.Table.{Node, node_at}

-- both numbers are nodes or none is, and the acceptances are the same
pub record IsAlike (table : List Node) (first number : ℕ) : Type 0 where
  pub within : (first < length table) ↔ (number < length table)
  pub same : (node_at table first).accept ≡ (node_at table number).accept

-- at each number stands one that is alike; past the end of the list a number stands for itself
abbrev pub AreAlike : List Node → List ℕ → Type 0
AreAlike table firsts = (n : ℕ) → IsAlike table (get_or firsts n n) n
