-- How a circle is written once it is found on a trail of vertices.
use Rattle.std.specs.Prelude.{◌≡◌, ℕ, ◌<◌, ◌++◌, List, length, take, drop, slice_index, nat_lt}
use Rattle.std.specs.List.{IsFirstBest}

-- the part of the trail from a place of `first` on, turned so that its least number is the first
pub record IsTurnedFrom (trail : List ℕ) (first : ℕ) (circle : List ℕ) : Type 0 where
  pub from : ℕ
  pub least : ℕ
  pub within : from < length trail
  pub is_first : slice_index trail from ≡ first
  pub is_least : IsFirstBest nat_lt (drop from trail) (length (drop from trail)) least
  pub is_turned : circle ≡ drop least (drop from trail) ++ take least (drop from trail)
