-- A bound on the hidden events of a network is told wherever there is one, and nothing else is told then.
use Rattle.std.specs.Prelude.{◌≡◌, ℕ, List}
use Rattle.hidden_steps.specs.Order.{Taken}
use Rattle.network_stages.specs.Prelude.{Network, HasTables}
use Rattle.network_stages.specs.declared.component_tables.ComponentTable.{ComponentTable}
use Rattle.report.specs.Prelude.{verdict_status}
use Rattle.report.specs.declared.answer.Verdict.{Verdict}
use Rattle.livelock.specs.Bounded.{HasOrder, IsBoundOf, IsBounded, IsToldBound}
use Rattle.livelock.specs.Named.{IsSetNamed}

-- The name stands for a set of events, and each component has a table. With these events hidden, all components are taken in an order, and their bounds add up
-- to this, which 64 bits hold.
pub record IsWithinBound (network : Network) (name : List ℕ) (bound : ℕ) : Type 0 where
  pub events : List ℕ
  pub set : IsSetNamed network.program name events
  pub tables : List ComponentTable
  pub are : HasTables network tables
  pub order : List Taken
  pub all : HasOrder network events order
  pub is : IsBoundOf events order bound

abbrev pub BoundsAreTold : Type 0
BoundsAreTold = (network : Network) (name : List ℕ) (bound : ℕ) (v : Verdict) → IsWithinBound network name bound → IsBounded network name v → IsToldBound network bound v

-- Two verdicts on one network, asked of one set, have the same status. (Where a definition leaves a choice, as of a component without a table, it is among
-- verdicts of one status.)
abbrev pub StatusesAreOne : Type 0
StatusesAreOne = (network : Network) (name : List ℕ) (v w : Verdict) → IsBounded network name v → IsBounded network name w → verdict_status v ≡ verdict_status w

-- where the components have tables, they are the same
abbrev pub VerdictsAreOne : Type 0
VerdictsAreOne =
    (network : Network) (tables : List ComponentTable) (name : List ℕ) (v w : Verdict) → HasTables network tables → IsBounded network name v → IsBounded network name w → v ≡ w
