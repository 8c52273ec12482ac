-- What is true of a network where a bound on its hidden events is told.
use Rattle.std.specs.Prelude.{◌≤◌, ℕ, List}
use Rattle.digraph.specs.Walk.{Walk}
use Rattle.csp_program.specs.declared.processes.Proc.{Proc}
use Rattle.csp_tables.specs.Prelude.{NetworkStep, Tree, Reached}
use Rattle.hidden_steps.specs.Bounded.{HiddenStep}
use Rattle.network_stages.specs.Prelude.{Network, HasTables}
use Rattle.network_stages.specs.declared.component_tables.ComponentTable.{ComponentTable}
use Rattle.process_steps.specs.ComponentStep.{ProcessStep}
use Rattle.report.specs.declared.answer.Verdict.{Verdict}
use Rattle.livelock.specs.Bounded.{IsToldBound}
use Rattle.livelock.specs.Named.{IsSetNamed}

-- From every state that some run of the network reaches, at most `bound` steps follow one another that are silent or by one of these events.
abbrev pub BoundsHidden : Network → List ℕ → ℕ → Type 0
BoundsHidden network events bound =
    (u v : Tree Proc) (n : ℕ) → Reached (NetworkStep (ProcessStep network.program)) network.tree u
    → Walk (HiddenStep (NetworkStep (ProcessStep network.program)) events) n u v → n ≤ bound

-- The name stands for a set of events. Each component has a table, so that none ends or lacks a value. The hidden events are bounded, and the verdict tells the
-- bound.
pub record IsBoundedWhole (network : Network) (name : List ℕ) (v : Verdict) : Type 0 where
  pub events : List ℕ
  pub set : IsSetNamed network.program name events
  pub tables : List ComponentTable
  pub are : HasTables network tables
  pub bound : ℕ
  pub bounds : BoundsHidden network events bound
  pub is : IsToldBound network bound v
