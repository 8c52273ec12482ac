-- What a call that evaluates answers: the value where there is one, the first fault where there is none, or want of memory, which is free.
use Rattle.std.specs.Prelude.{◌≡◌, Result, Ok, Err}
use Rattle.csp_base.specs.Prelude.{Tells}
use Rattle.csp_base.specs.declared.stop.Stop.{Stop}
use Rattle.csp_program.specs.Prelude.{Outcome}
use Rattle.csp_program.specs.declared.kinds.ValueKind.{ValueKind}

abbrev pub EvalFault : Type 0
EvalFault = Stop ValueKind

-- a fault with what it is a fault of
abbrev pub IsFault : {A : Type 0} → EvalFault → Outcome A → Type 0
IsFault fault outcome = Tells (λ kind. outcome ≡ Err kind) fault

abbrev pub Gives : {A : Type 0} → Result A EvalFault → Outcome A → Type 0
Gives (Ok a) outcome = outcome ≡ Ok a
Gives (Err fault) outcome = IsFault fault outcome
