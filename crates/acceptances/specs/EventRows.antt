-- Sets in rows: each stands in the row of one of its events.
use Rattle.std.specs.Prelude.{◌≡◌, ◌⊎◌, ℕ, ◌<◌, ◌%◌, List, [], length, slice_index_or, IsTrue}
use Rattle.csp_base.specs.Members.{has}

-- among so many rows it is the row of an event of the set, or the first row where the set is empty
abbrev pub IsRowFor : ℕ → List ℕ → ℕ → Type 0
IsRowFor count set row = ((set ≡ []) × (row ≡ 0)) ⊎ ((e : ℕ) × IsTrue (has set e) × (row ≡ e % count))

-- the row in which the set in a place stands
pub record StandsInRow (set : List ℕ) (rows : List (List ℕ)) (place : ℕ) : Type 0 where
  pub row : ℕ
  pub fits : IsRowFor (length rows) set row
  pub listed : IsTrue (has (slice_index_or rows row []) place)

-- the rows hold the places of the sets, and of nothing else
pub record AreEventRows (sets rows : List (List ℕ)) : Type 0 where
  pub some : 0 < length rows
  pub within : (row place : ℕ) → IsTrue (has (slice_index_or rows row []) place) → place < length sets
  pub each : (place : ℕ) → place < length sets → StandsInRow (slice_index_or sets place []) rows place
