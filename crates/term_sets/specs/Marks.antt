-- Marks of the numbers that a list holds.
use Rattle.std.specs.Prelude.{◌≡◌, ℕ, Bool, false, List, length, slice_index_or}
use Rattle.csp_base.specs.Members.{has}

-- exactly the numbers of the list are marked
abbrev pub AreMarksOf : List Bool → List ℕ → Type 0
AreMarksOf marks numbers = (n : ℕ) → slice_index_or marks n false ≡ has numbers n

-- a mark for each number below the count, and none is set
pub record IsUnmarked (count : ℕ) (marks : List Bool) : Type 0 where
  pub one_each : length marks ≡ count
  pub none : (n : ℕ) → slice_index_or marks n false ≡ false
