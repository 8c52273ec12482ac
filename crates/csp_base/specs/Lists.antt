-- What is said of numbers and lists: an integer from 0 on, the greatest number and the sum, what stands in a list, and that nothing stands in it twice.
use Rattle.std.specs.Prelude.{◌≡◌, ℕ, ℤ, pos, negsuc, ◌+◌, max, Some, List, [], ◌∷◌, slice_get}

-- an integer as a natural number, 0 for one below 0
abbrev pub natural : ℤ → ℕ
natural (pos n) = n
natural (negsuc n) = 0

-- the greatest number of a list, 0 for none
abbrev pub greatest : List ℕ → ℕ
greatest [] = 0
greatest (n ∷ ns) = max n (greatest ns)

-- the sum of a list
abbrev pub total : List ℕ → ℕ
total [] = 0
total (n ∷ ns) = n + total ns

-- x stands in the list
abbrev pub StandsIn : {X : Type 0} → List X → X → Type 0
StandsIn xs x = (k : ℕ) × (slice_get xs k ≡ Some x)

-- no value stands twice in the list
abbrev pub EachOnce : {X : Type 0} → List X → Type 0
EachOnce {X} xs = (j k : ℕ) (x : X) → slice_get xs j ≡ Some x → slice_get xs k ≡ Some x → j ≡ k
