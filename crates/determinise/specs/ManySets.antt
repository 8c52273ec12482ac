-- How many sets of states the traces of a labelled transition system lead to.
use Rattle.std.specs.Prelude.{◌≡◌, ◌↔◌, ◌<◌, ℕ, List, [], length, get_or}
use Rattle.csp_tables.specs.Prelude.{Label, After, IsTrace}

-- the two traces lead to the same states
abbrev pub HaveSameStates : {S : Type 0} → (S → Label → S → Type 0) → S → List ℕ → List ℕ → Type 0
HaveSameStates {S} Step start s t = (x : S) → After Step start s x ↔ After Step start t x

-- n traces lead to n sets of states, of which no two are the same
pub record ReachesSets {S : Type 0} (Step : S → Label → S → Type 0) (start : S) (n : ℕ) : Type 0 where
  pub traces : List (List ℕ)
  pub count : length traces ≡ n
  pub each : (k : ℕ) → k < n → IsTrace Step start (get_or traces k [])
  pub apart : (j k : ℕ) → j < k → k < n → HaveSameStates Step start (get_or traces j []) (get_or traces k []) → ⊥
