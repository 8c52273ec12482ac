-- A process has a list of steps exactly where it lacks no value, and the list is then exactly its steps. The depth that the list goes by is there for the recursion alone: the steps of
-- a process are those of its layer over the steps of the processes below.
use Rattle.std.specs.Prelude.{◌≡◌, ◌↔◌, Ok, List}
use Rattle.process_steps.specs.LacksNone.{LacksNone}
use Rattle.process_steps.specs.Step.{Step}
use Rattle.process_steps.specs.StepList.{ListsMove, Move, steps_of, steps_of_layer}
use Rattle.csp_program.specs.declared.processes.Proc.{Proc}
use Rattle.csp_program.specs.declared.processes.Proc.TheViews.{out-Proc}
use Rattle.csp_program.specs.declared.programs.Content.{Content}
use Rattle.process_steps.specs.declared.label.Label.{Label}

abbrev pub ListsAreSteps : Type 0
ListsAreSteps = (p : Content) (t : Proc) (moves : List Move) → steps_of p t ≡ Ok moves → (l : Label) (u : Proc) → ListsMove moves l u ↔ Step p t l u

abbrev pub ListsAreOfLayers : Type 0
ListsAreOfLayers = (p : Content) (t : Proc) → steps_of p t ≡ steps_of_layer p (steps_of p) (out-Proc t)

abbrev pub ListsAreThere : Type 0
ListsAreThere = (p : Content) (t : Proc) → ((moves : List Move) × (steps_of p t ≡ Ok moves)) ↔ LacksNone p t
