-- Why a call has no result: want of memory, or what is told. What it tells is owed; want of memory is free.
use Rattle.csp_base.specs.declared.stop.Stop.{Stop}
use Rattle.csp_base.specs.declared.stop.Stop.TheVariants as stop

-- what is told is such
abbrev pub Tells : {F : Type 0} → (F → Type 0) → Stop F → Type 0
Tells Is stop.NoMemory = Unit {0}
Tells Is (stop.Told f) = Is f
