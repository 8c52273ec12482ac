-- What stands while a table is explored. (No public contract cites this.)
use Rattle.std.specs.Prelude.{◌≡◌, ◌<◌, ◌≤◌, ◌⊎◌, ◌++◌, ◌∷◌, [], ℕ, List, true, false, length, slice_index, slice_set, IsTrue}
use Rattle.csp_base.specs.Members.{has}
use Rattle.csp_tables.specs.Prelude.{Node, node_at, node_after, is_possible}
use Rattle.observed_runs.specs.Observed.{pair_at}
use Rattle.observed_runs.specs.Exploration.{AreFound, Found, HaveOrigins}
use Rattle.observed_runs.specs.Enough.{HasPair, HasOther}

-- the pair is known, or it comes to the end with its origin
abbrev pub IsAdded : Found → ℕ × ℕ → ℕ × ℕ → Found → Type 0
IsAdded found pair origin more =
    ((more ≡ found) × HasPair found.pairs pair)
    ⊎ (more ≡ record { pairs = found.pairs ++ pair ∷ []; origins = found.origins ++ origin ∷ [] })

-- each pair that is there stays in its place
abbrev pub Grows : List (ℕ × ℕ) → List (ℕ × ℕ) → Type 0
Grows pairs more = (k : ℕ) → k < length pairs → (k < length more) × (pair_at more k ≡ pair_at pairs k)

-- what stands between two pairs that are followed
pub record AreExplored (table : List Node) (step : ℕ → ℕ → ℕ) (found : Found) : Type 0 where
  pub found_are : AreFound table step 0 found
  pub origins : HaveOrigins found
  pub nodes : (k : ℕ) → k < length found.pairs → (pair_at found.pairs k).0 < length table

-- each event that is possible at the pair in this place leads to a pair that is listed
abbrev pub AreFollowed : List Node → (ℕ → ℕ → ℕ) → List (ℕ × ℕ) → ℕ → Type 0
AreFollowed table step pairs place = (e : ℕ) → IsTrue (is_possible (node_at table (pair_at pairs place).0).next e) → HasPair pairs (node_after table (pair_at pairs place).0 e, step (pair_at pairs place).1 e)

-- so many steps of a row were followed from the pair in this place
pub record IsFollowedTo (table : List Node) (step : ℕ → ℕ → ℕ) (pairs : List (ℕ × ℕ)) (place : ℕ) (row : List (ℕ × ℕ)) (n : ℕ) (found : Found) : Type 0 where
  pub explored : AreExplored table step found
  pub grows : Grows pairs found.pairs
  pub listed : (k : ℕ) → k < n → HasPair found.pairs ((pair_at row k).1, step (pair_at pairs place).1 (pair_at row k).0)

-- A step is kept if it is by an event of the set, or if its node is not marked yet; then it is.
abbrev pub IsKept : List ℕ → ℕ → ℕ × ℕ → List (ℕ × ℕ) → List ℕ → List (ℕ × ℕ) → List ℕ → Type 0
IsKept events mark step some marks more_some more_marks =
    ((has events step.0 ≡ true) × (more_some ≡ some ++ step ∷ []) × (more_marks ≡ marks))
    ⊎ ((has events step.0 ≡ false) × (slice_index marks step.1 ≡ mark) × (more_some ≡ some) × (more_marks ≡ marks))
    ⊎ ((has events step.0 ≡ false) × (more_some ≡ some ++ step ∷ []) × (more_marks ≡ slice_set marks step.1 mark))

-- of the first n steps enough are kept, and each node that has this mark has a step that is
pub record AreEnoughSoFar (events : List ℕ) (mark : ℕ) (next : List (ℕ × ℕ)) (n : ℕ) (some : List (ℕ × ℕ)) (marks : List ℕ) : Type 0 where
  pub sound : (k : ℕ) → k < length some → HasPair next (pair_at some k)
  pub seen : (j : ℕ) → j < n → IsTrue (has events (pair_at next j).0) → HasPair some (pair_at next j)
  pub others : (j : ℕ) → j < n → has events (pair_at next j).0 ≡ false → HasOther events some (pair_at next j).1
  pub marked : (node : ℕ) → slice_index marks node ≡ mark → HasOther events some node
  pub most : (node : ℕ) → slice_index marks node ≤ mark
