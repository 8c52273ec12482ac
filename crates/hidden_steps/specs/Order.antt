-- An order of the components of a network in which hidden events are bounded.
--
-- Components are taken one after another. An order is the list of those that are taken, the last one in front: behind each stand those that were taken
-- before it. The own graph of a component over them has the states that it reaches by itself, and its steps that are silent or by a hidden event that none
-- of them has in its alphabet. A component is free where its own graph has no circle; each time the least free one is taken. Its height is the greatest
-- number of steps of a walk in its own graph, and its bound that height, once and once more for each of the bounds of those taken before it with which it
-- shares a hidden event.
use Rattle.std.specs.Prelude.{◌≡◌, ◌<◌, ◌≤◌, ◌+◌, ◌*◌, ◌⊎◌, ◌↔◌, ℕ, suc, List, [], ◌∷◌, Bool, ◌&&◌, false, IsTrue, Some, if◌then◌else◌, length, slice_get}
use Rattle.csp_base.specs.Standard.{list_any, IsStrictlyIncreasing}
use Rattle.digraph.specs.Walk.{Walk}
use Rattle.csp_base.specs.Members.{has}
use Rattle.csp_tables.specs.Prelude.{Label, silent, visible, Component, ComponentStep, Reached}

-- a component that is taken: its number, its alphabet, and its height
pub record Taken : Type 0 where
  pub part : ℕ
  pub alphabet : List ℕ
  pub height : ℕ

-- whether the event is in the alphabet of one of the taken components
abbrev pub is_passed : List Taken → ℕ → Bool
is_passed taken e = list_any (λ t. has t.alphabet e) taken

-- whether the alphabets have a hidden event in common
abbrev pub share_hidden : List ℕ → List ℕ → List ℕ → Bool
share_hidden hidden a b = list_any (λ e. has a e && has b e) hidden

-- what the bounds add up to of those taken that share a hidden event with the alphabet
abbrev pub shared_bounds : List ℕ → List ℕ → List Taken → ℕ
shared_bounds hidden alphabet [] = 0
shared_bounds hidden alphabet (t ∷ ts) = (if share_hidden hidden alphabet t.alphabet then t.height * suc (shared_bounds hidden t.alphabet ts) else 0) + shared_bounds hidden alphabet ts

-- the bound of a component over those taken before it
abbrev pub bound_over : List ℕ → List Taken → Taken → ℕ
bound_over hidden ts t = t.height * suc (shared_bounds hidden t.alphabet ts)

-- what all bounds add up to
abbrev pub hidden_bound : List ℕ → List Taken → ℕ
hidden_bound hidden [] = 0
hidden_bound hidden (t ∷ ts) = bound_over hidden ts t + hidden_bound hidden ts

-- the component with this number is taken
abbrev pub IsAmong : ℕ → List Taken → Type 0
IsAmong i [] = ⊥
IsAmong i (t ∷ ts) = (t.part ≡ i) ⊎ IsAmong i ts

module _ {T : Type 0} (Step : T → Label → T → Type 0) (hidden : List ℕ) where
  -- a hidden event of the component that no taken one has
  pub record OwnEvent (taken : List Taken) (c d : Component T) : Type 0 where
    pub event : ℕ
    pub hides : IsTrue (has hidden event)
    pub own : is_passed taken event ≡ false
    pub step : ComponentStep Step c (visible event) d

  -- a step in the own graph of a component
  abbrev pub OwnStep : List Taken → Component T → Component T → Type 0
  OwnStep taken c d = ComponentStep Step c silent d ⊎ OwnEvent taken c d

  -- n is the greatest number of steps of a walk in the own graph of c
  pub record IsHeight (taken : List Taken) (c : Component T) (n : ℕ) : Type 0 where
    pub attained : (s t : Component T) × Reached (ComponentStep Step) c s × Walk (OwnStep taken) n s t
    pub most : (s t : Component T) (m : ℕ) → Reached (ComponentStep Step) c s → Walk (OwnStep taken) m s t → m ≤ n

  -- the own graph of c has a circle
  pub record GoesRound (taken : List Taken) (c : Component T) : Type 0 where
    pub state : Component T
    pub reached : Reached (ComponentStep Step) c state
    pub more : ℕ
    pub round : Walk (OwnStep taken) (suc more) state state

  module _ (cs : List (Component T)) where
    -- the component with this number is taken, or its own graph has a circle
    abbrev pub IsNotFree : List Taken → ℕ → Type 0
    IsNotFree taken i = (c : Component T) → slice_get cs i ≡ Some c → IsAmong i taken ⊎ GoesRound taken c

    -- t is the least free component over those taken, with its height
    pub record IsNext (taken : List Taken) (t : Taken) : Type 0 where
      pub component : Component T
      pub at : slice_get cs t.part ≡ Some component
      pub alphabet : component.alphabet ≡ t.alphabet
      pub height : IsHeight taken component t.height
      pub new : IsAmong t.part taken → ⊥
      pub least : (j : ℕ) → j < t.part → IsNotFree taken j

    -- each was the least free one over those behind it
    abbrev pub AreTaken : List Taken → Type 0
    AreTaken [] = Unit {0}
    AreTaken (t ∷ ts) = IsNext ts t × AreTaken ts

    -- all components are taken
    pub record IsOrder (order : List Taken) : Type 0 where
      pub taken : AreTaken order
      pub all : (i : ℕ) (c : Component T) → slice_get cs i ≡ Some c → IsAmong i order

    -- Some components are taken, none of the others is free over them, and these are the others, rising.
    pub record HasNoOrder (parts : List ℕ) : Type 0 where
      pub taken : List Taken
      pub are : AreTaken taken
      pub none_free : (i : ℕ) → IsNotFree taken i
      pub left : (i : ℕ) → IsTrue (has parts i) ↔ ((i < length cs) × (IsAmong i taken → ⊥))
      pub rising : IsStrictlyIncreasing parts
      pub some : (i : ℕ) × IsTrue (has parts i)
