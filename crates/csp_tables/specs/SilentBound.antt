-- The silent bound of a network: the sum over its components of the greatest number of silent steps that follow one
-- another from a state that the component reaches by itself. It is exact: attained, and most.
use Rattle.std.specs.Prelude.{◌≡◌, ℕ, ◌+◌, ◌≤◌, List, [], ◌∷◌}
use Rattle.csp_tables.specs.Label.{Label}
use Rattle.csp_tables.specs.Path.{Reached, Silently}
use Rattle.csp_tables.specs.Network.{Component, ComponentStep}

-- n is the greatest number of silent steps in a row from a state that is reached from start
pub record IsGreatestSilence {S : Type 0} (Step : S → Label → S → Type 0) (start : S) (n : ℕ) : Type 0 where
  pub attained : (s : S) × (t : S) × Reached Step start s × Silently Step n s t
  pub most : (s t : S) (m : ℕ) → Reached Step start s → Silently Step m s t → m ≤ n

-- the sum over the components, each by itself
abbrev pub IsSilentBound : {T : Type 0} → (T → Label → T → Type 0) → List (Component T) → ℕ → Type 0
IsSilentBound Step [] bound = bound ≡ 0
IsSilentBound Step (c ∷ cs) bound = (first : ℕ) × (others : ℕ) × IsGreatestSilence (ComponentStep Step) c first × IsSilentBound Step cs others × (bound ≡ first + others)
