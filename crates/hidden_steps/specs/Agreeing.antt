-- Components are taken in one way: of two takings of the same components one is a front of the other. So there is one order of all components at most and
-- with it one bound, and there is none where some are left that are not free; and these are the same, whichever way they were found.
use Rattle.std.specs.Prelude.{◌≡◌, ◌⊎◌, ℕ, List, [], ◌∷◌}
use Rattle.csp_tables.specs.Prelude.{Label, Component}
use Rattle.hidden_steps.specs.Order.{AreTaken, HasNoOrder, IsOrder, Taken, hidden_bound}

-- those that the first list takes are the first that the second one takes, in the same order
abbrev pub IsFrontOf : List Taken → List Taken → Type 0
IsFrontOf ts [] = ts ≡ []
IsFrontOf ts (u ∷ us) = (ts ≡ u ∷ us) ⊎ IsFrontOf ts us

module _ {T : Type 0} (Step : T → Label → T → Type 0) where
  abbrev pub TakingsAreFronts : Type 0
  TakingsAreFronts = (hidden : List ℕ) (cs : List (Component T)) (ts us : List Taken) → AreTaken Step hidden cs ts → AreTaken Step hidden cs us → IsFrontOf ts us ⊎ IsFrontOf us ts

  abbrev pub OrdersAreOne : Type 0
  OrdersAreOne = (hidden : List ℕ) (cs : List (Component T)) (order other : List Taken) → IsOrder Step hidden cs order → IsOrder Step hidden cs other → order ≡ other

  abbrev pub BoundsAreOne : Type 0
  BoundsAreOne =
      (hidden : List ℕ) (cs : List (Component T)) (order other : List Taken) → IsOrder Step hidden cs order → IsOrder Step hidden cs other
      → hidden_bound hidden order ≡ hidden_bound hidden other

  abbrev pub NoOrderExcludesOrders : Type 0
  NoOrderExcludesOrders = (hidden : List ℕ) (cs : List (Component T)) (parts : List ℕ) (order : List Taken) → HasNoOrder Step hidden cs parts → IsOrder Step hidden cs order → ⊥

  abbrev pub OthersAreOne : Type 0
  OthersAreOne = (hidden : List ℕ) (cs : List (Component T)) (parts others : List ℕ) → HasNoOrder Step hidden cs parts → HasNoOrder Step hidden cs others → parts ≡ others
