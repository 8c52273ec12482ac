-- The options of a state, in their order: first the components that can move silently, then the events that are possible, each kind in rising order.
use Rattle.std.specs.Prelude.{◌≡◌, ◌<◌, ℕ, Some, List, slice_get}
use Rattle.csp_base.specs.Lists.{StandsIn}
use Rattle.numbered_walks.specs.declared.moves.Move.{Move}
use Rattle.numbered_walks.specs.declared.moves.Move.TheVariants as move

-- the first option stands before the second
abbrev pub IsBefore : Move → Move → Type 0
IsBefore (move.Silent i) (move.Silent j) = i < j
IsBefore (move.Silent i) (move.Event e) = Unit {0}
IsBefore (move.Event d) (move.Silent j) = ⊥
IsBefore (move.Event d) (move.Event e) = d < e

-- the list has exactly these options, in their order
pub record AreOptions (Has : Move → Type 0) (options : List Move) : Type 0 where
  pub sound : (m : Move) → StandsIn options m → Has m
  pub complete : (m : Move) → Has m → StandsIn options m
  pub order : (j k : ℕ) (m n : Move) → j < k → slice_get options j ≡ Some m → slice_get options k ≡ Some n → IsBefore m n
