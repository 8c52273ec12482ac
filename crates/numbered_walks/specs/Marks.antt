-- Marks: for each number below a bound whether it is marked. The marked numbers in rising order. (For private contracts: no public one cites this.)
use Rattle.std.specs.Prelude.{ℕ, ◌+◌, Bool, true, false, List, [], ◌∷◌}

-- the places of the marks, of which the first has the place k
abbrev pub places_from : ℕ → List Bool → List ℕ
places_from k [] = []
places_from k (true ∷ marks) = k ∷ places_from (k + 1) marks
places_from k (false ∷ marks) = places_from (k + 1) marks

-- the marked numbers
abbrev pub marked : List Bool → List ℕ
marked marks = places_from 0 marks

-- how many are marked
abbrev pub mark_count : List Bool → ℕ
mark_count [] = 0
mark_count (true ∷ marks) = mark_count marks + 1
mark_count (false ∷ marks) = mark_count marks

-- 1 for a mark
abbrev pub bit : Bool → ℕ
bit true = 1
bit false = 0
