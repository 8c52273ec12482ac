-- Taken components, as the code lists them: by their numbers and heights, the first one in front. (For private contracts.)
use Rattle.std.specs.Prelude.{◌≡◌, ◌<◌, ℕ, Option, Some, None, List, [], map, reverse, slice_get}
use Rattle.csp_tables.specs.Network.{Component}
use Rattle.hidden_steps.specs.Order.{Taken}
use Rattle.hidden_bounds.specs.declared.ordering.Placed.{Placed}

abbrev pub alphabet_of : {T : Type 0} → Option (Component T) → List ℕ
alphabet_of None = []
alphabet_of (Some c) = c.alphabet

-- the alphabet of the component with the number i
abbrev pub alphabet_at : {T : Type 0} → List (Component T) → ℕ → List ℕ
alphabet_at cs i = alphabet_of (slice_get cs i)

-- each number is that of one of so many components
abbrev pub AreWithin : ℕ → List Placed → Type 0
AreWithin count order = (k : ℕ) (p : Placed) → slice_get order k ≡ Some p → p.part < count

abbrev pub taken_at : {T : Type 0} → List (Component T) → Placed → Taken
taken_at cs p = record { part = p.part; alphabet = alphabet_at cs p.part; height = p.height }

-- the taken components with their alphabets, the last one in front
unfoldable pub taken_in : {T : Type 0} → List (Component T) → List Placed → List Taken
taken_in cs order = map (taken_at cs) (reverse order)
