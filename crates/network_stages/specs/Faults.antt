-- What each fault tells of the components of a network: which one is the first that has no table, and why.
use Rattle.std.specs.Prelude.{◌≡◌, ◌⊎◌, ℕ, Some, List, slice_get, take}
use Rattle.csp_program.specs.declared.processes.Proc.{Proc}
use Rattle.csp_program.specs.declared.programs.Content.{Content}
use Rattle.csp_tables.specs.Prelude.{Component, SilentStep, RawStep}
use Rattle.digraph.specs.Circle.{IsCircle}
use Rattle.local_tables.specs.Prelude.{LacksTable, IsLocalTable, Room}
use Rattle.local_tables.specs.declared.local_table.LocalTable.{LocalTable}
use Rattle.network_stages.specs.Tables.{AreTablesOf, room_left, whole_room}
use Rattle.network_stages.specs.declared.component_tables.ComponentTable.{ComponentTable}
use Rattle.process_steps.specs.declared.component_fault.ComponentFault.{ComponentFault}
use Rattle.process_steps.specs.declared.component_fault.ComponentFault.TheVariants as fault
use Rattle.report.specs.declared.answer.Refusal.{Refusal}
use Rattle.report.specs.declared.answer.Refusal.TheVariants as refusal
use Rattle.csp_base.specs.declared.stop.Stop.{Stop}
use Rattle.csp_base.specs.declared.stop.Stop.TheVariants as stop

-- The components before the one with the number i have tables, and this holds of that one and of the room that is left.
pub record IsFirst (p : Content) (cs : List (Component Proc)) (i : ℕ) (Has : Room → Component Proc → Type 0) : Type 0 where
  pub tables : List ComponentTable
  pub earlier : AreTablesOf p (take i cs) tables
  pub component : Component Proc
  pub at : slice_get cs i ≡ Some component
  pub has : Has (room_left whole_room tables) component

-- the component's table has a circle of silent steps
pub record GoesRound (p : Content) (room : Room) (c : Component Proc) : Type 0 where
  pub made : LocalTable
  pub table : IsLocalTable p c room made
  pub circle : List ℕ
  pub round : IsCircle (SilentStep (RawStep made.table)) circle

-- the component has no table, or goes round
abbrev pub HasFault : Content → ComponentFault → Room → Component Proc → Type 0
HasFault p f room c = LacksTable p c room f ⊎ ((f ≡ fault.Diverges) × GoesRound p room c)

-- The component's table goes round. (No public contract cites the rest.)
abbrev pub TellsRound : LocalTable → ComponentFault → Type 0
TellsRound made f = (f ≡ fault.Diverges) × ((circle : List ℕ) × IsCircle (SilentStep (RawStep made.table)) circle)

-- how a fault of the component with the number i is told
abbrev pub at_component : ℕ → Stop ComponentFault → Stop Refusal
at_component i stop.NoMemory = stop.NoMemory
at_component i (stop.Told f) = stop.Told (refusal.Component i f)
