-- What an exploration finds.
use Rattle.std.specs.Prelude.{◌≡◌, ◌<◌, ◌≤◌, ◌+◌, ℕ, List, Some, length, slice_get, IsTrue}
use Rattle.csp_tables.specs.Table.{Node, node_at, node_after, is_possible, IsRun}
use Rattle.observed_runs.specs.Observed.{LeadsTo, pair_at}

-- no two pairs are the same
abbrev pub AreDistinct : List (ℕ × ℕ) → Type 0
AreDistinct pairs = (j k : ℕ) → j < k → k < length pairs → pair_at pairs j ≡ pair_at pairs k → ⊥

-- The pairs of a node and a state, each once, to which runs lead: each pair that is listed has such a run, and the pair to
-- which a run leads is listed.
pub record IsExploration (table : List Node) (step : ℕ → ℕ → ℕ) (start : ℕ) (pairs : List (ℕ × ℕ)) : Type 0 where
  pub reached : (k : ℕ) → k < length pairs → (s : List ℕ) × LeadsTo table step start s (pair_at pairs k)
  pub listed : (s : List ℕ) → IsRun table s → (k : ℕ) × (k < length pairs) × LeadsTo table step start s (pair_at pairs k)
  pub distinct : AreDistinct pairs

-- What contracts see of an exploration: the pairs in the order in which they were found, and for each but the first the place
-- of the pair from which it was found, and the event that led there.
pub record Found : Type 0 where
  pub pairs : List (ℕ × ℕ)
  pub origins : List (ℕ × ℕ)

-- the event leads from one pair to the other
pub record StepsTo (table : List Node) (step : ℕ → ℕ → ℕ) (from : ℕ × ℕ) (event : ℕ) (to : ℕ × ℕ) : Type 0 where
  pub possible : IsTrue (is_possible (node_at table from.0).next event)
  pub node : to.0 ≡ node_after table from.0 event
  pub state : to.1 ≡ step from.1 event

-- The first pair is where runs begin, and each other one was found from an earlier one.
pub record AreFound (table : List Node) (step : ℕ → ℕ → ℕ) (start : ℕ) (found : Found) : Type 0 where
  pub first : slice_get found.pairs 0 ≡ Some (0, start)
  pub later : (k : ℕ) → k < length found.origins → StepsTo table step (pair_at found.pairs (pair_at found.origins k).0) (pair_at found.origins k).1 (pair_at found.pairs (k + 1))

-- there is an origin for each pair but the first, and it stands before
pub record HaveOrigins (found : Found) : Type 0 where
  pub count : length found.pairs ≡ length found.origins + 1
  pub earlier : (k : ℕ) → k < length found.origins → (pair_at found.origins k).0 ≤ k
