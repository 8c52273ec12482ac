-- What a function that looks at the front of tokens answers: what its definition gives, that it gives nothing, or want of memory, which is free.
use Rattle.std.specs.Prelude.{◌≡◌, Option, Some, None, Result, Ok, Err}
use Rattle.csp_base.specs.declared.stop.Stop.{Stop}
use Rattle.csp_base.specs.declared.stop.Stop.TheVariants as stop
use Rattle.tree_reading.specs.declared.fault.NoText.{NoText}

abbrev pub Gives : {A B : Type 0} → Result A (Stop NoText) → (A → B) → Option B → Type 0
Gives (Ok a) seen given = given ≡ Some (seen a)
Gives (Err stop.NoMemory) seen given = Unit {0}
Gives (Err (stop.Told none)) seen given = given ≡ None
