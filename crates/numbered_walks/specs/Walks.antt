-- A walk from a state, which numbers choose: each step takes one of the options that the state has then. Over any states, with any options, and any
-- way in which an option leads from a state to the next by numbers that are drawn.
use Rattle.std.specs.Prelude.{◌≡◌, ◌⊎◌, ◌↔◌, ◌<◌, ℕ, Some, List, [], ◌∷◌, Bool, IsTrue, length, slice_get}
use Rattle.numbered_walks.specs.Numbers.{first_draw, next_number, place_among}
use Rattle.numbered_walks.specs.Options.{AreOptions}
use Rattle.numbered_walks.specs.declared.moves.Move.{Move}

-- among the options the number chooses this one
pub record Chooses (Has : Move → Type 0) (number : ℕ) (m : Move) : Type 0 where
  pub options : List Move
  pub are : AreOptions Has options
  pub chosen : slice_get options (place_among number (length options)) ≡ Some m

-- there is no option
abbrev pub HasNone : (Move → Type 0) → Type 0
HasNone Has = (m : Move) → Has m → ⊥

module _ {S : Type 0} (Has : S → Move → Type 0) (Goes : S → ℕ → Move → S → ℕ → Type 0) where
  -- The moves lead from the first state to the last. The number after x chooses the first of them, and so on; those after y are drawn on the way, of which
  -- z is the last.
  abbrev pub IsWalk : ℕ → ℕ → S → List Move → S → ℕ → Type 0
  IsWalk x y s [] t z = (s ≡ t) × (y ≡ z)
  IsWalk x y s (m ∷ ms) t z = (u : S) × (w : ℕ) × Chooses (Has s) (next_number x) m × Goes s y m u w × IsWalk (next_number x) w u ms t z

  -- The walk from a state with this seed: it has as many steps as are asked for, or fewer where the last state has no option. It is stuck exactly
  -- where the last state has none.
  pub record IsWalkOf (seed steps : ℕ) (s : S) (moves : List Move) (is_stuck : Bool) : Type 0 where
    pub last : S
    pub drawn : ℕ
    pub walk : IsWalk seed (first_draw seed) s moves last drawn
    pub count : (length moves ≡ steps) ⊎ ((length moves < steps) × HasNone (Has last))
    pub stuck : IsTrue is_stuck ↔ HasNone (Has last)
