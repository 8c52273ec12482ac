-- A network as the list of its components, without the tree: one component moves by itself, or an event happens that
-- some component has, and each component with that event in its alphabet does it.
use Rattle.std.specs.Prelude.{◌≡◌, ◌⊎◌, ℕ, List, [], ◌∷◌, Bool, false, ◌||◌, IsTrue, MatchBool}
use Rattle.csp_base.specs.Members.{has}
use Rattle.csp_tables.specs.Label.{Label}
use Rattle.csp_tables.specs.Label.Label.{silent, visible}
use Rattle.csp_tables.specs.Network.{Component, ComponentStep}

-- whether the event is in the alphabet of a component
abbrev pub in_some_component : {T : Type 0} → List (Component T) → ℕ → Bool
in_some_component [] e = false
in_some_component (c ∷ cs) e = has c.alphabet e || in_some_component cs e

-- one component has a silent step, and the others stay
abbrev pub OneMoves : {T : Type 0} → (T → Label → T → Type 0) → List (Component T) → List (Component T) → Type 0
OneMoves Step (c ∷ cs) (d ∷ ds) = (ComponentStep Step c silent d × (cs ≡ ds)) ⊎ ((c ≡ d) × OneMoves Step cs ds)
OneMoves _ _ _ = ⊥

-- each component with the event in its alphabet does it, and the others stay
abbrev pub AllTakePart : {T : Type 0} → (T → Label → T → Type 0) → ℕ → List (Component T) → List (Component T) → Type 0
AllTakePart Step e [] [] = Unit {0}
AllTakePart Step e (c ∷ cs) (d ∷ ds) = MatchBool (has c.alphabet e) (ComponentStep Step c (visible e) d) (c ≡ d) × AllTakePart Step e cs ds
AllTakePart _ _ _ _ = ⊥

abbrev pub FlatStep : {T : Type 0} → (T → Label → T → Type 0) → List (Component T) → Label → List (Component T) → Type 0
FlatStep Step cs silent ds = OneMoves Step cs ds
FlatStep Step cs (visible e) ds = IsTrue (in_some_component cs e) × AllTakePart Step e cs ds
