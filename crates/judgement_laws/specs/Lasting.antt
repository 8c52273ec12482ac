-- What the steps of a network do not show: that none of its components comes to an end, or to a value that there isn't.
use Rattle.std.specs.Prelude.{◌≡◌, ℕ, Some, List, slice_get}
use Rattle.csp_program.specs.declared.processes.Proc.{Proc}
use Rattle.csp_program.specs.declared.programs.Content.{Content}
use Rattle.csp_tables.specs.Prelude.{Component, ComponentStep, Reached}
use Rattle.process_steps.specs.Prelude.{ProcessStep, Ticks, LacksNone}

-- The process cannot end, and lacks no value.
pub record GoesOn (p : Content) (x : Proc) : Type 0 where
  pub endless : Ticks p x → ⊥
  pub whole : LacksNone p x

-- so does each term that a component reaches by itself
abbrev pub AllGoOn : Content → List (Component Proc) → Type 0
AllGoOn p cs = (i : ℕ) (c d : Component Proc) → slice_get cs i ≡ Some c → Reached (ComponentStep (ProcessStep p)) c d → GoesOn p d.term
