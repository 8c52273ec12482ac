-- Which components take part in a move, and where each of them goes: to the only term to which it can go, or to that among several which the next number
-- of the second sequence chooses.
use Rattle.std.specs.Prelude.{◌≡◌, ℕ, Bool, Some, MatchBool, nat_eq, List, [], ◌∷◌, length, slice_get}
use Rattle.csp_base.specs.Members.{has}
use Rattle.csp_tables.specs.Prelude.{Label, silent, visible}
use Rattle.numbered_walks.specs.Numbers.{next_number, place_among}
use Rattle.numbered_walks.specs.declared.moves.Move.{Move}
use Rattle.numbered_walks.specs.declared.moves.Move.TheVariants as move

-- the label of a move
abbrev pub label : Move → Label
label (move.Silent i) = silent
label (move.Event e) = visible e

-- whether the component in this place, with this alphabet, takes part in a move
abbrev pub takes_part : Move → ℕ → List ℕ → Bool
takes_part (move.Silent i) place alphabet = nat_eq i place
takes_part (move.Event e) place alphabet = has alphabet e

-- Of the targets d is taken, where y was drawn before and z is the last number then. A single target draws no number. Among several the next number chooses
-- the place.
abbrev pub IsDrawn : {T : Type 0} → List T → ℕ → T → ℕ → Type 0
IsDrawn targets y d z =
    MatchBool (nat_eq (length targets) 1)
    ((targets ≡ d ∷ []) × (z ≡ y))
    ((slice_get targets (place_among (next_number y) (length targets)) ≡ Some d) × (z ≡ next_number y))
