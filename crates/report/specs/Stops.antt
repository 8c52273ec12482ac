-- What a walk owes that halts, and what one owes that ends. Want of memory is free.
use Rattle.std.specs.Prelude.{◌≡◌, Result, Ok, Err}
use Rattle.report.specs.declared.answer.Done.{Done}
use Rattle.report.specs.declared.answer.Refusal.{Refusal}
use Rattle.report.specs.declared.answer.Shortfall.{Shortfall}
use Rattle.report.specs.declared.answer.Side.{Side}
use Rattle.report.specs.declared.answer.Verdict.{Verdict}
use Rattle.report.specs.declared.answer.Verdict.TheVariants as verdict
use Rattle.csp_base.specs.Prelude.{Tells}
use Rattle.csp_base.specs.declared.stop.Stop.{Stop}
use Rattle.csp_base.specs.declared.stop.Stop.TheVariants as stop
use Rattle.report.specs.declared.stop.Halt.{Halt}
use Rattle.report.specs.declared.stop.Halt.TheVariants as halt

-- the verdict with which a walk halts is such
abbrev pub HaltsWith : (Verdict → Type 0) → Halt → Type 0
HaltsWith Is halt.NoMemory = Unit {0}
HaltsWith Is (halt.Told v) = Is v

-- a walk over a network with this result comes to such a verdict
abbrev pub Answers : (Verdict → Type 0) → Result Done Halt → Type 0
Answers Is (Ok what) = Is (verdict.Done what)
Answers Is (Err why) = HaltsWith Is why

-- a walk that stops with an answer comes to such an answer
abbrev pub Ends : {A : Type 0} → (A → Type 0) → Result A (Stop A) → Type 0
Ends Is (Ok a) = Is a
Ends Is (Err why) = Tells Is why

-- a stop that is a refusal of the program of a side, and one that is a shortfall
abbrev pub refuse : Side → Stop Refusal → Halt
refuse side stop.NoMemory = halt.NoMemory
refuse side (stop.Told r) = halt.Told (verdict.Refused side r)

abbrev pub unproved : Stop Shortfall → Halt
unproved stop.NoMemory = halt.NoMemory
unproved (stop.Told s) = halt.Told (verdict.NotProved s)

-- the verdict to which a walk with this result comes
abbrev pub IsVerdict : Result Done Halt → Verdict → Type 0
IsVerdict (Ok what) v = v ≡ verdict.Done what
IsVerdict (Err halt.NoMemory) v = ⊥
IsVerdict (Err (halt.Told told)) v = v ≡ told

-- the answer with which a walk with this result ends
abbrev pub IsEnd : {A : Type 0} → Result A (Stop A) → A → Type 0
IsEnd (Ok a) b = b ≡ a
IsEnd (Err stop.NoMemory) b = ⊥
IsEnd (Err (stop.Told a)) b = b ≡ a
