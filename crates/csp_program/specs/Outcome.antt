-- What an evaluation comes to: a value, or the first fault that it meets.
use Rattle.std.specs.Prelude.{Result, Ok, Err, List, [], ◌∷◌}
use Rattle.csp_program.specs.declared.kinds.ValueKind.{ValueKind}

abbrev pub Outcome : Type 0 → Type 0
Outcome A = Result A ValueKind

-- the next step, unless there was a fault
abbrev pub and_then : {A B : Type 0} → Outcome A → (A → Outcome B) → Outcome B
and_then (Ok a) next = next a
and_then (Err kind) next = Err kind

-- what a value gives, or its fault alone
abbrev pub or_fault : {A B : Type 0} → Outcome A → (A → List (Outcome B)) → List (Outcome B)
or_fault (Ok a) gives = gives a
or_fault (Err kind) gives = Err kind ∷ []
