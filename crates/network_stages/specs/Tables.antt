-- The tables of the components of a network, each within the room that those before it leave.
use Rattle.std.specs.Prelude.{◌-◌, List, [], ◌∷◌}
use Rattle.dl_limits.specs.declared.TheConstants.{MOST_NODES, MOST_STEPS}
use Rattle.csp_program.specs.declared.processes.Proc.{Proc}
use Rattle.csp_program.specs.declared.programs.Content.{Content}
use Rattle.csp_tables.specs.Network.{Component}
use Rattle.local_tables.specs.Prelude.{IsLocalTable, Room}
use Rattle.net_sound.specs.Heights.{AreSilentHeights}
use Rattle.network_stages.specs.declared.component_tables.ComponentTable.{ComponentTable}

-- the room of all components together
abbrev pub whole_room : Room
whole_room = record { nodes = MOST_NODES; steps = MOST_STEPS }

-- the room that is left after some is used
abbrev pub room_after : Room → Room → Room
room_after room used = record { nodes = room.nodes - used.nodes; steps = room.steps - used.steps }

abbrev pub room_left : Room → List ComponentTable → Room
room_left room [] = room
room_left room (t ∷ ts) = room_left (room_after room t.local.used) ts

-- the component's table within the room, with its silent heights
pub record IsTableWithin (p : Content) (room : Room) (c : Component Proc) (t : ComponentTable) : Type 0 where
  pub table : IsLocalTable p c room t.local
  pub heights : AreSilentHeights t.local.table t.heights

-- one table for each component, in the same order
abbrev pub AreTablesWithin : Content → Room → List (Component Proc) → List ComponentTable → Type 0
AreTablesWithin p room [] [] = Unit {0}
AreTablesWithin p room [] (t ∷ ts) = ⊥
AreTablesWithin p room (c ∷ cs) [] = ⊥
AreTablesWithin p room (c ∷ cs) (t ∷ ts) = IsTableWithin p room c t × AreTablesWithin p (room_after room t.local.used) cs ts

abbrev pub AreTablesOf : Content → List (Component Proc) → List ComponentTable → Type 0
AreTablesOf p cs ts = AreTablesWithin p whole_room cs ts

-- the component's table within some room
abbrev pub HasTable : Content → Component Proc → ComponentTable → Type 0
HasTable p c t = (room : Room) × IsTableWithin p room c t
