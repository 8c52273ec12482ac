-- Counts: numbers below a bound that pass a test, and events of a list that are in a set. And whether a count is odd.
use Rattle.std.specs.Prelude.{◌+◌, ℕ, zero, suc, List, [], ◌∷◌, Bool, false, not, max, if◌then◌else◌}
use Rattle.csp_base.specs.Members.{has}

-- how many numbers below n pass the test
abbrev pub count_below : (ℕ → Bool) → ℕ → ℕ
count_below test zero = 0
count_below test (suc n) = if test n then count_below test n + 1 else count_below test n

-- how many events of the list are in the set
abbrev pub count_in : List ℕ → List ℕ → ℕ
count_in set [] = 0
count_in set (e ∷ s) = if has set e then count_in set s + 1 else count_in set s

abbrev pub is_odd : ℕ → Bool
is_odd zero = false
is_odd (suc n) = not (is_odd n)

-- the least number above f of each number below n; 0 if there is none
abbrev pub above_all : (ℕ → ℕ) → ℕ → ℕ
above_all f zero = 0
above_all f (suc n) = max (suc (f n)) (above_all f n)
