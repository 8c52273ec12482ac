-- The first component that breaks what a rule asks of the traces of each.
use Rattle.std.specs.Prelude.{◌<◌, ℕ, List}
use Rattle.design_rules.specs.Behaviours.{Behaviours}

-- it holds of each component after each of its traces
abbrev pub AllKeep : (ℕ → List ℕ → Type 0) → Type 0
AllKeep Keeps = (i : ℕ) (s : List ℕ) → Keeps i s

-- it does not hold of the component in place i after the trace s, and it holds of each component before
pub record IsFirstBroken (b : Behaviours) (Keeps : ℕ → List ℕ → Type 0) (i : ℕ) (s : List ℕ) : Type 0 where
  pub runs : b.trace i s
  pub broken : Keeps i s → ⊥
  pub first : (j : ℕ) (t : List ℕ) → j < i → Keeps j t
