-- The own graph of a component's numbered table is that of the component, where its events are the hidden ones that none of the taken components has.
use Rattle.std.specs.Prelude.{◌≡◌, ℕ, ◌&&◌, not, List}
use Rattle.csp_base.specs.Members.{has}
use Rattle.csp_tables.specs.Prelude.{Label, Component, IsTableOf, RawTable}
use Rattle.hidden_steps.specs.Order.{GoesRound, IsHeight, Taken, is_passed}
use Rattle.hidden_bounds.specs.Own.{GoesRoundItself, IsOwnHeight}

-- the events are the hidden ones that none of the taken components has
abbrev pub AreOpen : List ℕ → List Taken → List ℕ → Type 0
AreOpen hidden taken events = (e : ℕ) → has events e ≡ (has hidden e && not (is_passed taken e))

-- the heights are the same
abbrev pub OwnHeightsAreExact : {T : Type 0} → (T → Label → T → Type 0) → Type 0
OwnHeightsAreExact {T} Step = (hidden events : List ℕ) (taken : List Taken) (c : Component T) (terms : List T) (raw : RawTable) (n : ℕ)
    → AreOpen hidden taken events → IsTableOf Step c terms raw → IsOwnHeight raw events n → IsHeight Step hidden taken c n

-- a circle in the one is a circle in the other
abbrev pub OwnCirclesAreExact : {T : Type 0} → (T → Label → T → Type 0) → Type 0
OwnCirclesAreExact {T} Step = (hidden events : List ℕ) (taken : List Taken) (c : Component T) (terms : List T) (raw : RawTable)
    → AreOpen hidden taken events → IsTableOf Step c terms raw → GoesRoundItself raw events → GoesRound Step hidden taken c
