-- Where a component has a table within the room, no fault tells the truth of it: so one comes exactly where one holds.
use Rattle.csp_program.specs.declared.processes.Proc.{Proc}
use Rattle.csp_program.specs.declared.programs.Content.{Content}
use Rattle.csp_tables.specs.Network.{Component}
use Rattle.local_tables.specs.Faults.{LacksTable}
use Rattle.local_tables.specs.LocalTable.{IsLocalTable}
use Rattle.local_tables.specs.declared.local_table.LocalTable.{LocalTable}
use Rattle.local_tables.specs.Room.{Room}
use Rattle.process_steps.specs.declared.component_fault.ComponentFault.{ComponentFault}

abbrev pub FaultsExcludeTables : Type 0
FaultsExcludeTables = (p : Content) (c : Component Proc) (room : Room) (made : LocalTable) (fault : ComponentFault) → IsLocalTable p c room made → LacksTable p c room fault → ⊥
