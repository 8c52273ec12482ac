-- Why nothing is told of a component.
use Rattle.std.specs.Prelude.{ℕ, List}
use Rattle.csp_base.specs.declared.stop.Stop.{Stop}
use Rattle.csp_base.specs.declared.stop.Stop.TheVariants as stop
use Rattle.csp_program.specs.Prelude.{Outcome}
use Rattle.csp_program.specs.declared.processes.Proc.{Proc}
use Rattle.csp_tables.specs.Network.{Component}
use Rattle.network_trees.specs.Annotations.{IsFirstWithout}
use Rattle.network_layout.specs.declared.told.NotedFault.{NotedFault}
use Rattle.value_operators.specs.Gives.{EvalFault}

-- what is told of the first components has a value, up to this one
abbrev pub IsUntold : {A : Type 0} → (Component Proc → Outcome A) → List (Component Proc) → NotedFault → Type 0
IsUntold told components fault = IsFirstWithout told components fault.part fault.kind

-- the fault of a component (for a private call)
abbrev pub noted_fault : ℕ → EvalFault → Stop NotedFault
noted_fault part stop.NoMemory = stop.NoMemory
noted_fault part (stop.Told why) = stop.Told (record { part = part; kind = why })
