-- A fault of a part is a fault of the whole.
use Rattle.value_operators.proofs.Prelude.{◌≡◌, Ok, Err, Result, IsErrAnd, Outcome, ValueKind, Gives, EvalFault, Tells, Stop}
use Rattle.csp_base.specs.declared.stop.Stop.TheVariants as stop

-- what is told says less
pub weaker : {F : Type 0} (P Q : F → Type 0) (s : Stop F) → Tells P s → ((f : F) → P f → Q f) → Tells Q s
weaker P Q stop.NoMemory tells weak = tt
weaker P Q (stop.Told f) tells weak = weak f tells

-- what holds of an error holds of the call that ends with it
pub at_err : {A F : Type 0} (R : Result A F → Type 0) (r : Result A F) (f : F) → IsErrAnd r (λ y. y ≡ f) → R (Err f) → R r
at_err R (Ok x) f is h = absurd is
at_err R (Err y) f is h = rw is h

pub passed : {A B : Type 0} (r : Result B EvalFault) (f : EvalFault) (part : Outcome A) (whole : Outcome B)
    → IsErrAnd r (λ y. y ≡ f) → Gives {A = A} (Err f) part → ((k : ValueKind) → part ≡ Err k → whole ≡ Err k) → Gives {A = B} r whole
passed r f part whole is h passes = at_err (λ q. Gives q whole) r f is (weaker (λ k. part ≡ Err k) (λ k. whole ≡ Err k) f h passes)
