-- The table of a component of a program, within the limits.
use Rattle.std.specs.Prelude.{◌≡◌, ℕ, ◌≤◌, Some, List, length, map, slice_get}
use Rattle.dl_limits.specs.declared.TheConstants.{MOST_TERMS, MOST_TERM_DEPTH}
use Rattle.csp_program.specs.Prelude.{proc_depth, proc_size}
use Rattle.csp_program.specs.declared.processes.Proc.{Proc}
use Rattle.csp_program.specs.declared.programs.Content.{Content}
use Rattle.csp_steps.specs.Order.{AreTargets}
use Rattle.csp_tables.specs.Prelude.{Label, Component, IsTableOf, RawTable, targets_in}
use Rattle.process_steps.specs.Prelude.{ProcessStep, Ticks, LacksNone}
use Rattle.local_tables.specs.Component.{IsInside, step_count}
use Rattle.local_tables.specs.declared.local_table.LocalTable.{LocalTable}
use Rattle.local_tables.specs.Room.{Room}
use Rattle.csp_base.specs.Lists.{total}

-- The term lacks no value, it cannot end, and it is not too deep.
pub record IsFit (p : Content) (x : Proc) : Type 0 where
  pub whole : LacksNone p x
  pub goes_on : Ticks p x → ⊥
  pub shallow : proc_depth x ≤ MOST_TERM_DEPTH

-- By the label, the table leads from m to the terms to which x goes, in the same order.
pub record IsInOrder (p : Content) (terms : List Proc) (raw : RawTable) (m : ℕ) (x : Proc) (l : Label) : Type 0 where
  pub targets : List Proc
  pub are : AreTargets p x l targets
  pub same : map (λ n. slice_get terms n) (targets_in raw m l) ≡ map (λ t. Some t) targets

-- The terms and steps are exactly those of the component, and each term is fit. They are within the limits and the room, and the room that they
-- take is told. The steps of a term by a label are in the order of its list of steps.
pub record IsLocalTable (p : Content) (c : Component Proc) (room : Room) (made : LocalTable) : Type 0 where
  pub terms : List Proc
  pub table : IsTableOf (ProcessStep p) c terms made.table
  pub fit : (n : ℕ) (x : Proc) → slice_get terms n ≡ Some x → IsFit p x
  pub few : length terms ≤ MOST_TERMS
  pub nodes : total (map proc_size terms) ≡ made.used.nodes
  pub steps : step_count made.table ≡ made.used.steps
  pub room_for_nodes : made.used.nodes ≤ room.nodes
  pub room_for_steps : made.used.steps ≤ room.steps
  pub order : (m : ℕ) (x : Proc) (l : Label) → slice_get terms m ≡ Some x → IsInside c.alphabet l → IsInOrder p terms made.table m x l
