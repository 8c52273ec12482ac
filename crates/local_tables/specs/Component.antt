-- A component of a program, and what stands for it: terms that it reaches by itself, and steps of these.
use Rattle.std.specs.Prelude.{◌≡◌, ℕ, ◌+◌, IsTrue, Some, List, length, slice_get}
use Rattle.csp_base.specs.Prelude.{EachOnce, has}
use Rattle.csp_program.specs.declared.processes.Proc.{Proc}
use Rattle.csp_program.specs.declared.programs.Content.{Content}
use Rattle.csp_steps.specs.Evaluated.{Fits}
use Rattle.csp_tables.specs.Prelude.{Label, silent, visible, Reached, Component, ComponentStep, IsStepOf, RawStep, RawTable, standing_at}
use Rattle.local_tables.specs.declared.task.Task.{Task}
use Rattle.local_tables.specs.declared.terms.Terms.{Terms}

-- the component of a task
abbrev pub part_of : Task → Component Proc
part_of task = record { alphabet = task.alphabet.now; term = task.start.now }

-- what was evaluated for the terms is true of the program
abbrev pub AreTermsOf : Content → Terms → Type 0
AreTermsOf p terms = Fits p terms.pool terms.evaluated

-- the label is silent, or an event of the alphabet
abbrev pub IsInside : List ℕ → Label → Type 0
IsInside alphabet silent = Unit {0}
IsInside alphabet (visible e) = IsTrue (has alphabet e)

-- The component reaches each of these terms, and none stands twice.
pub record AreTerms {T : Type 0} (Step : T → Label → T → Type 0) (c : Component T) (terms : List T) : Type 0 where
  pub once : EachOnce terms
  pub reached : (n : ℕ) (x : T) → slice_get terms n ≡ Some x → Reached (ComponentStep Step) c (standing_at c x)

-- Each step of the table is a step of the component between two of the terms, and none stands twice.
pub record AreSteps {T : Type 0} (Step : T → Label → T → Type 0) (c : Component T) (terms : List T) (raw : RawTable) : Type 0 where
  pub silent_once : EachOnce raw.silent
  pub steps_once : EachOnce raw.steps
  pub sound : (m n : ℕ) (l : Label) → RawStep raw m l n → IsStepOf Step c terms m l n

-- how many steps the table has
abbrev pub step_count : RawTable → ℕ
step_count raw = length raw.silent + length raw.steps
