-- The processes that a process is made of: itself, and at any depth the sub-processes. What a list gets where a process is put into it.
use Rattle.std.specs.Prelude.{◌≡◌, ◌⊎◌, ℕ, zero, suc, List}
use Rattle.csp_program.specs.declared.processes.Proc.{Proc}
use Rattle.term_pool.specs.Pooled.{Has, parts}

-- one of the processes, of which something holds
pub record SomeOf (ts : List Proc) (P : Proc → Type 0) : Type 0 where
  pub process : Proc
  pub listed : Has ts process
  pub inside : P process

-- u stands in t, so many layers below it
abbrev pub StandsUnder : ℕ → Proc → Proc → Type 0
StandsUnder zero u t = t ≡ u
StandsUnder (suc k) u t = SomeOf (parts t) (StandsUnder k u)

-- u is t, or stands in it at some depth
abbrev pub IsIn : Proc → Proc → Type 0
IsIn t u = (k : ℕ) × StandsUnder k u t

-- u stands in one of the processes
abbrev pub IsInOne : List Proc → Proc → Type 0
IsInOne ts u = SomeOf ts (λ t. IsIn t u)

-- what stands in the new list stood in the old one, or is the process t
abbrev pub AddsOne : List Proc → List Proc → Proc → Type 0
AddsOne old new t = (u : Proc) → Has new u → Has old u ⊎ (t ≡ u)

-- what stands in the new list stood in the old one, or in the process t
abbrev pub AddsParts : List Proc → List Proc → Proc → Type 0
AddsParts old new t = (u : Proc) → Has new u → Has old u ⊎ IsIn t u
