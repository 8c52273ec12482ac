-- What is found of hidden events: the order in which all components are taken, with the sum of their bounds; or why there is none, or none that 64 bits hold.
use Rattle.std.specs.Prelude.{◌≡◌, ◌<◌, ◌≤◌, ◌^◌, ◌⊎◌, ℕ, List, [], ◌∷◌, map, reverse}
use Rattle.csp_tables.specs.Prelude.{Label, Component}
use Rattle.hidden_steps.specs.Order.{HasNoOrder, IsOrder, Taken, hidden_bound}
use Rattle.hidden_bounds.specs.declared.bounding.HiddenBound.{HiddenBound}
use Rattle.hidden_bounds.specs.declared.bounding.LoopFault.{LoopFault}
use Rattle.hidden_bounds.specs.declared.bounding.LoopFault.TheVariants as fault
use Rattle.hidden_bounds.specs.declared.ordering.Placed.{Placed}

-- a taken component as it is told
abbrev pub placed : Taken → Placed
placed t = record { part = t.part; height = t.height }

-- In this order, the bounds of those before this component add up to what 64 bits hold, and with its own to more.
abbrev pub PassesAt : List ℕ → List Taken → ℕ → Type 0
PassesAt hidden [] part = ⊥
PassesAt hidden (t ∷ ts) part =
    ((t.part ≡ part) × (hidden_bound hidden ts < 2 ^ 64) × (2 ^ 64 ≤ hidden_bound hidden (t ∷ ts))) ⊎ PassesAt hidden ts part

module _ {T : Type 0} (Step : T → Label → T → Type 0) (hidden : List ℕ) (cs : List (Component T)) where
  -- all components are taken in this order, which is told from the first one on, and their bounds add up to this
  pub record IsBound (found : HiddenBound) : Type 0 where
    pub order : List Taken
    pub is : IsOrder Step hidden cs order
    pub told : found.order ≡ reverse (map placed order)
    pub bound : found.bound ≡ hidden_bound hidden order

  -- All components are taken, and their bounds add up to more than 64 bits hold, first at this component.
  pub record PassesLimit (part : ℕ) : Type 0 where
    pub order : List Taken
    pub is : IsOrder Step hidden cs order
    pub passes : PassesAt hidden order part

  -- what a fault tells
  abbrev pub TellsLoop : LoopFault → Type 0
  TellsLoop (fault.NoOrder parts) = HasNoOrder Step hidden cs parts
  TellsLoop (fault.BoundLimit part) = PassesLimit part
