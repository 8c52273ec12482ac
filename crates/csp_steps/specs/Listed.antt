-- The steps of a process of a pool: labels, and the places of the processes after them.
use Rattle.std.specs.Prelude.{◌≡◌, ◌<◌, ℕ, Result, Some, Ok, Err, List, map, length, slice_get}
use Rattle.process_steps.specs.StepList.{Move, steps_of}
use Rattle.term_pool.specs.Trees.{tree_at}
use Rattle.csp_program.specs.Prelude.{Outcome}
use Rattle.csp_program.specs.declared.processes.Proc.{Proc}
use Rattle.csp_program.specs.declared.programs.Content.{Content}
use Rattle.csp_steps.specs.Order.{AreFirsts}
use Rattle.csp_steps.specs.declared.step.StepTo.{StepTo}
use Rattle.value_operators.specs.Gives.{EvalFault, IsFault}

-- a step as a label and the process at its place
abbrev pub seen : List Proc → StepTo → Move
seen trees s = (s.label, tree_at trees s.to)

-- These are exactly the steps of the process, each once, in the order in which they first stand in its list, at places of the pool.
pub record AreStepsOf (p : Content) (trees : List Proc) (t : Proc) (steps : List StepTo) : Type 0 where
  pub moves : List Move
  pub has : steps_of p t ≡ Ok moves
  pub within : (k : ℕ) (s : StepTo) → slice_get steps k ≡ Some s → s.to.0 < length trees
  pub firsts : AreFirsts moves (map (seen trees) steps)

-- a fault that is told is the one that the outcome is; want of memory is free
abbrev pub FaultIs : {A B : Type 0} → Result A EvalFault → Outcome B → Type 0
FaultIs (Ok a) outcome = Unit {0}
FaultIs (Err f) outcome = IsFault f outcome
