-- What is known while components are taken, said of what is read. (For private contracts.)
use Rattle.std.specs.Prelude.{◌≤◌, ℕ, List, length}
use Rattle.dl_limits.specs.declared.TheConstants.{MOST_COMPONENTS}
use Rattle.network_stages.specs.Tables.{AreTablesOf}
use Rattle.process_steps.specs.ComponentStep.{ProcessStep}
use Rattle.hidden_bounds.specs.Standings.{IsFreeHere, IsLeastFree, IsSoFar, IsTakenFar}
use Rattle.hidden_bounds.specs.declared.ordering.Placed.{Placed}
use Rattle.hidden_bounds.specs.declared.ordering.Taking.{Taking}
use Rattle.hidden_bounds.specs.declared.scope.Scope.{Scope}

-- each component has its table, and there are few
pub record IsScope (scope : Scope) : Type 0 where
  pub tables : AreTablesOf scope.program.now scope.seats.now scope.tables.now
  pub few : length scope.seats.now ≤ MOST_COMPONENTS

module _ (scope : Scope) where
  -- what is known is true
  abbrev pub IsTaking : Taking → Type 0
  IsTaking t = IsSoFar (ProcessStep scope.program.now) scope.hidden.now scope.seats.now t.order.items t.left t.standings.items

  -- the component with this number is free, with this height
  abbrev pub IsFree : Taking → ℕ → ℕ → Type 0
  IsFree t = IsFreeHere (ProcessStep scope.program.now) scope.hidden.now scope.seats.now t.order.items t.standings.items

  -- it is the least one
  abbrev pub IsLeast : Taking → Placed → Type 0
  IsLeast t = IsLeastFree (ProcessStep scope.program.now) scope.hidden.now scope.seats.now t.order.items t.standings.items

  -- components are taken in this order as long as one is free, and these are left
  abbrev pub AreTakenFar : List Placed → List ℕ → Type 0
  AreTakenFar = IsTakenFar (ProcessStep scope.program.now) scope.hidden.now scope.seats.now
