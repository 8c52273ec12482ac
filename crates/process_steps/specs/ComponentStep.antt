-- The steps of a process that a network sees: the silent ones, and the events, of which a component takes those of its alphabet. They tell neither that the process
-- can end nor that it lacks a value. A component that reaches such a process has no table: such a network is never said to be free of deadlock, to run, to be
-- bounded or to conform.
use Rattle.csp_tables.specs.Prelude.{Label, silent, visible}
use Rattle.process_steps.specs.Step.{Step}
use Rattle.csp_program.specs.declared.processes.Proc.{Proc}
use Rattle.csp_program.specs.declared.programs.Content.{Content}
use Rattle.process_steps.specs.declared.label.Label.TheVariants.{Silent, Visible, Tick}

abbrev pub ProcessStep : Content → Proc → Label → Proc → Type 0
ProcessStep p t silent u = Step p t Silent u
ProcessStep p t (visible e) u = Step p t (Visible e) u

-- the process can end
abbrev pub Ticks : Content → Proc → Type 0
Ticks p t = (u : Proc) × Step p t Tick u
