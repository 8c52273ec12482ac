-- Which steps of a table an observer of some events has to follow.
use Rattle.std.specs.Prelude.{◌≡◌, ◌<◌, ℕ, List, [], false, IsTrue, length, get_or}
use Rattle.csp_base.specs.Members.{has}
use Rattle.csp_tables.specs.Table.{Node, node_at}
use Rattle.observed_runs.specs.Observed.{pair_at}

-- the pair is in the list
pub record HasPair (pairs : List (ℕ × ℕ)) (pair : ℕ × ℕ) : Type 0 where
  pub place : ℕ
  pub within : place < length pairs
  pub is : pair_at pairs place ≡ pair

-- a step to the node by an event that is not in the set
pub record HasOther (events : List ℕ) (steps : List (ℕ × ℕ)) (node : ℕ) : Type 0 where
  pub place : ℕ
  pub within : place < length steps
  pub unseen : has events (pair_at steps place).0 ≡ false
  pub leads : (pair_at steps place).1 ≡ node

-- Some of a node's steps: each by an event of the set, and for each other step one to the same node.
pub record AreEnough (events : List ℕ) (next some : List (ℕ × ℕ)) : Type 0 where
  pub sound : (k : ℕ) → k < length some → HasPair next (pair_at some k)
  pub seen : (j : ℕ) → j < length next → IsTrue (has events (pair_at next j).0) → HasPair some (pair_at next j)
  pub others : (j : ℕ) → j < length next → has events (pair_at next j).0 ≡ false → HasOther events some (pair_at next j).1

-- such steps of each node
pub record HaveEnough (events : List ℕ) (table : List Node) (rows : List (List (ℕ × ℕ))) : Type 0 where
  pub count : length rows ≡ length table
  pub each : (n : ℕ) → n < length table → AreEnough events (node_at table n).next (get_or rows n [])

-- events that are not in the set leave the state as it is
abbrev pub SeesOnly : List ℕ → (ℕ → ℕ → ℕ) → Type 0
SeesOnly events step = (state e : ℕ) → has events e ≡ false → step state e ≡ state

-- the rows are enough for an observer with these steps
pub record SeesEnough (step : ℕ → ℕ → ℕ) (table : List Node) (rows : List (List (ℕ × ℕ))) : Type 0 where
  pub events : List ℕ
  pub only : SeesOnly events step
  pub rows_are : HaveEnough events table rows
