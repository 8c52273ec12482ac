-- Marks of pairs of numbers. (No public contract cites this.)
use Rattle.std.specs.Prelude.{◌<◌, ℕ, List, [], Bool, IsTrue, length, get_or}
use Rattle.csp_base.specs.Members.{has}
use Rattle.observed_runs.specs.Observed.{pair_at}
use Rattle.observed_runs.specs.Enough.{HasPair}
use Rattle.observed_runs.specs.Exploration.{AreDistinct}

-- whether the second number stands in the list at the first
abbrev pub is_marked : List (List ℕ) → ℕ → ℕ → Bool
is_marked seen first second = has (get_or seen first []) second

-- The pairs that are listed have marks, and no others, and each is listed once.
pub record AreMarked (pairs : List (ℕ × ℕ)) (seen : List (List ℕ)) : Type 0 where
  pub listed : (first second : ℕ) → IsTrue (is_marked seen first second) → HasPair pairs (first, second)
  pub marked : (k : ℕ) → k < length pairs → IsTrue (is_marked seen (pair_at pairs k).0 (pair_at pairs k).1)
  pub distinct : AreDistinct pairs
