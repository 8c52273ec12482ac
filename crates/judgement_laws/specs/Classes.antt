-- How many classes the traces of a component fall into where those with the same future are one class: the number of nodes of its normal table.
use Rattle.std.specs.Prelude.{◌≡◌, ◌+◌, ℕ, List, [], ◌∷◌, Some, length, slice_get}
use Rattle.csp_tables.specs.Prelude.{Label, Component, ComponentStep, HaveSameFuture, IsTrace}

-- one of these traces has the same future as the trace s
pub record IsOfClass {S : Type 0} (Step : S → Label → S → Type 0) (start : S) (traces : List (List ℕ)) (s : List ℕ) : Type 0 where
  pub place : ℕ
  pub trace : List ℕ
  pub listed : slice_get traces place ≡ Some trace
  pub same : HaveSameFuture Step start s trace

-- There are n traces of which no two have the same future, and each trace has the same future as one of them.
pub record HasClasses {S : Type 0} (Step : S → Label → S → Type 0) (start : S) (n : ℕ) : Type 0 where
  pub traces : List (List ℕ)
  pub count : length traces ≡ n
  pub are : (k : ℕ) (s : List ℕ) → slice_get traces k ≡ Some s → IsTrace Step start s
  pub different : (j k : ℕ) (s t : List ℕ) → slice_get traces j ≡ Some s → slice_get traces k ≡ Some t → HaveSameFuture Step start s t → j ≡ k
  pub all : (s : List ℕ) → IsTrace Step start s → IsOfClass Step start traces s

-- the sum over the components, each by itself
abbrev pub HaveClasses : {T : Type 0} → (T → Label → T → Type 0) → List (Component T) → ℕ → Type 0
HaveClasses Step [] n = n ≡ 0
HaveClasses Step (c ∷ cs) n = (first : ℕ) × (others : ℕ) × HasClasses (ComponentStep Step) c first × HaveClasses Step cs others × (n ≡ first + others)
