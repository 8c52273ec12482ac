-- Networks of components, over any step relation of terms (Roscoe 1997, chapters 2 and 7: alphabetised parallel).
-- A network is a tree. A leaf is a component: a term with its alphabet. Any other node is a list of operands, each
-- with an alphabet and a tree.
use Rattle.std.specs.Prelude.{◌≡◌, ◌⊎◌, ℕ, List, [], ◌∷◌, ◌++◌, Bool, false, ◌||◌, IsTrue, MatchBool}
use Rattle.csp_base.specs.Members.{has}
use Rattle.csp_tables.specs.Label.{Label}
use Rattle.csp_tables.specs.Label.Label.{silent, visible}

-- a component: the term where it stands, and the events that it takes part in
pub record Component (T : Type 0) : Type 0 where
  pub alphabet : List ℕ
  pub term : T

mutual
  pub data Tree (T : Type 0) : Type 0 where
    leaf : Component T → Tree T
    parallel : Operands T → Tree T

  pub data Operands (T : Type 0) : Type 0 where
    none : Operands T
    operand : List ℕ → Tree T → Operands T → Operands T

-- The steps of a component by itself: its term's silent steps, and its term's events in its alphabet. The alphabet stays.
abbrev pub ComponentStep : {T : Type 0} → (T → Label → T → Type 0) → Component T → Label → Component T → Type 0
ComponentStep Step c silent d = (c.alphabet ≡ d.alphabet) × Step c.term silent d.term
ComponentStep Step c (visible e) d = (c.alphabet ≡ d.alphabet) × IsTrue (has c.alphabet e) × Step c.term (visible e) d.term

-- whether the event is in an alphabet of the operands
abbrev pub in_some_alphabet : {T : Type 0} → Operands T → ℕ → Bool
in_some_alphabet none e = false
in_some_alphabet (operand alphabet tree others) e = has alphabet e || in_some_alphabet others e

-- The steps of a network. A leaf steps as its component does. Operands side by side have a silent step where one of
-- them has, and the others stay; they have an event that is in the alphabet of at least one, where each operand with
-- that event in its alphabet does it, and the others stay.
abbrev mutual
  pub NetworkStep : {T : Type 0} → (T → Label → T → Type 0) → Tree T → Label → Tree T → Type 0
  NetworkStep Step (leaf c) l (leaf d) = ComponentStep Step c l d
  NetworkStep Step (parallel os) silent (parallel qs) = OneSilent Step os qs
  NetworkStep Step (parallel os) (visible e) (parallel qs) = IsTrue (in_some_alphabet os e) × AllTogether Step e os qs
  NetworkStep _ _ _ _ = ⊥

  -- one operand has a silent step, and the others stay
  pub OneSilent : {T : Type 0} → (T → Label → T → Type 0) → Operands T → Operands T → Type 0
  OneSilent Step (operand a t os) (operand b u qs) = (a ≡ b) × ((NetworkStep Step t silent u × (os ≡ qs)) ⊎ ((t ≡ u) × OneSilent Step os qs))
  OneSilent _ _ _ = ⊥

  -- each operand with the event in its alphabet does it, and the others stay
  pub AllTogether : {T : Type 0} → (T → Label → T → Type 0) → ℕ → Operands T → Operands T → Type 0
  AllTogether Step e none none = Unit {0}
  AllTogether Step e (operand a t os) (operand b u qs) = (a ≡ b) × MatchBool (has a e) (NetworkStep Step t (visible e) u) (t ≡ u) × AllTogether Step e os qs
  AllTogether _ _ _ _ = ⊥

-- the components, from left to right
abbrev mutual
  pub leaves : {T : Type 0} → Tree T → List (Component T)
  leaves (leaf c) = c ∷ []
  leaves (parallel os) = leaves_of_operands os

  pub leaves_of_operands : {T : Type 0} → Operands T → List (Component T)
  leaves_of_operands none = []
  leaves_of_operands (operand a t os) = leaves t ++ leaves_of_operands os
