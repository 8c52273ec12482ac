-- What each fault tells of a component.
use Rattle.std.specs.Prelude.{◌≡◌, ℕ, ◌<◌, Err, List, length, map}
use Rattle.dl_limits.specs.declared.TheConstants.{MOST_TERMS, MOST_TERM_DEPTH}
use Rattle.csp_program.specs.Prelude.{proc_depth, proc_size}
use Rattle.csp_program.specs.declared.kinds.ValueKind.{ValueKind}
use Rattle.csp_program.specs.declared.processes.Proc.{Proc}
use Rattle.csp_program.specs.declared.programs.Content.{Content}
use Rattle.csp_tables.specs.Prelude.{Reached, Component, ComponentStep, RawTable, standing_at, After}
use Rattle.process_steps.specs.Prelude.{ProcessStep, Ticks, steps_of}
use Rattle.process_steps.specs.declared.component_fault.ComponentFault.{ComponentFault}
use Rattle.local_tables.specs.Component.{AreSteps, AreTerms, part_of, step_count}
use Rattle.local_tables.specs.declared.task.Task.{Task}
use Rattle.process_steps.specs.declared.component_fault.ComponentFault.TheVariants as fault
use Rattle.local_tables.specs.Room.{Room}
use Rattle.csp_base.specs.Prelude.{total, Tells}
use Rattle.csp_base.specs.declared.stop.Stop.{Stop}

module _ (p : Content) (c : Component Proc) where
  -- the component reaches the term
  abbrev pub Reaches : Proc → Type 0
  Reaches x = Reached (ComponentStep (ProcessStep p)) c (standing_at c x)

  -- it reaches a term whose steps need a value that there isn't
  pub record LacksValue (kind : ValueKind) : Type 0 where
    pub term : Proc
    pub reached : Reaches term
    pub none : steps_of p term ≡ Err kind

  -- it reaches more terms than a component may
  pub record HasManyTerms : Type 0 where
    pub terms : List Proc
    pub are : AreTerms (ProcessStep p) c terms
    pub many : MOST_TERMS < length terms

  -- it reaches a term that is too deep
  pub record HasDeepTerm : Type 0 where
    pub term : Proc
    pub reached : Reaches term
    pub deep : MOST_TERM_DEPTH < proc_depth term

  -- it reaches terms whose sizes add up to more than this number
  pub record HasLargeTerms (most : ℕ) : Type 0 where
    pub terms : List Proc
    pub are : AreTerms (ProcessStep p) c terms
    pub large : most < total (map proc_size terms)

  -- terms that it reaches have more steps than so many within its alphabet
  pub record HasManySteps (most : ℕ) : Type 0 where
    pub terms : List Proc
    pub raw : RawTable
    pub are : AreTerms (ProcessStep p) c terms
    pub steps : AreSteps (ProcessStep p) c terms raw
    pub many : most < step_count raw

  -- the trace leads to a term that can end
  pub record CanEnd (trace : List ℕ) : Type 0 where
    pub term : Proc
    pub after : After (ComponentStep (ProcessStep p)) c trace (standing_at c term)
    pub ends : Ticks p term

-- It has no table within the room, for this reason. (That its table goes round, or leads to too many sets, is told where there is one.)
abbrev pub LacksTable : Content → Component Proc → Room → ComponentFault → Type 0
LacksTable p c room (fault.Value kind) = LacksValue p c kind
LacksTable p c room fault.TermCount = HasManyTerms p c
LacksTable p c room fault.TermDepth = HasDeepTerm p c
LacksTable p c room fault.TermTotal = HasLargeTerms p c room.nodes
LacksTable p c room fault.StepCount = HasManySteps p c room.steps
LacksTable p c room fault.Diverges = ⊥
LacksTable p c room fault.SubsetLimit = ⊥
LacksTable p c room (fault.Terminates trace) = CanEnd p c trace

-- what is told is such a reason (for private calls)
abbrev pub TaskLacks : Task → Stop ComponentFault → Type 0
TaskLacks task = Tells (LacksTable task.program.now (part_of task) task.room)
