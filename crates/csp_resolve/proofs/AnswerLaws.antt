-- What an answer owes, from what the calls below it owe.
use Rattle.csp_resolve.proofs.Prelude.{◌≡◌, List, sym, ap, ◌∙◌, subst, Result, Ok, Err, Atom, Content, Decl, Answers, Grows, SharedSets, AreKinds, IsProgram, Answer, Resolves, resolved, ResolveFault, Kind}
use Rattle.std.specs.Result.{IsErrAnd}
use Rattle.csp_text.specs.declared.script.Script.{Script}
use Rattle.csp_base.specs.declared.stop.Stop.{Stop}
use Rattle.csp_base.specs.declared.stop.Stop.TheVariants as stop
use Rattle.typed_laws.proofs.Programs.{faultless_is_program}

-- an error is owed where the whole has each fault of the part
pub err_from : {A B C D : Type 0} (shown : A → B) (also : C → D) (f : Stop ResolveFault) (part : Answer B) (whole : Answer D)
    → ((g : ResolveFault) → part ≡ Err g → whole ≡ Err g) → Answers shown (Err f) part → Answers also (Err f) whole
err_from shown also stop.NoMemory part whole along owed = tt
err_from shown also (stop.Told f) part whole along owed = along f owed

pub grows_err : {A B : Type 0} (shown : A → B) (f : Stop ResolveFault) (old new : List SharedSets) (part : Answer (List (List (List Atom)))) (whole : Answer B)
    → ((g : ResolveFault) → part ≡ Err g → whole ≡ Err g) → Grows (Err f) old new part → Answers shown (Err f) whole
grows_err shown stop.NoMemory old new part whole along owed = tt
grows_err shown (stop.Told f) old new part whole along owed = along f owed

-- a fault that is owed refuses the script whose declarations these are
pub refused : (script : Script) (decls : List Decl) (kinds : List Kind) (f : Stop ResolveFault) → decls ≡ script.decls → AreKinds decls kinds
    → Answers (λ (p : Content). p) (Err f) (resolved decls kinds) → Resolves script (Err f)
refused script decls kinds stop.NoMemory is are owed = tt
refused script decls kinds (stop.Told f) is are owed =
    record { kinds = kinds; are = subst (λ ds. AreKinds ds kinds) is are; is = ap (λ ds. resolved ds kinds) (sym is) ∙ owed }

pub program_is : (script : Script) (decls : List Decl) (kinds : List Kind) (p q : Content) → decls ≡ script.decls → AreKinds decls kinds → resolved decls kinds ≡ Ok p → q ≡ p
    → IsProgram script q
program_is script decls kinds p q is are answer same =
    faultless_is_program script kinds q (subst (λ ds. AreKinds ds kinds) is are) (ap (λ ds. resolved ds kinds) (sym is) ∙ answer ∙ ap Ok (sym same))

-- the exit of a `?`
pub passed : {A B C D : Type 0} (r : Result C (Stop ResolveFault)) (f : Stop ResolveFault) (shown : A → B) (also : C → D) (part : Answer B) (whole : Answer D)
    → IsErrAnd r (λ y. y ≡ f) → Answers shown (Err f) part → ((g : ResolveFault) → part ≡ Err g → whole ≡ Err g) → Answers also r whole
passed (Ok x) f shown also part whole is owed along = absurd is
passed (Err y) f shown also part whole is owed along = rw is (err_from shown also f part whole along owed)

pub passed_grown : {B C : Type 0} (r : Result C (Stop ResolveFault)) (f : Stop ResolveFault) (also : C → B) (old new : List SharedSets) (part : Answer (List (List (List Atom)))) (whole : Answer B)
    → IsErrAnd r (λ y. y ≡ f) → Grows (Err f) old new part → ((g : ResolveFault) → part ≡ Err g → whole ≡ Err g) → Answers also r whole
passed_grown (Ok x) f also old new part whole is owed along = absurd is
passed_grown (Err y) f also old new part whole is owed along = rw is (grows_err also f old new part whole along owed)

pub resolves_at : (script : Script) (r : Result Content (Stop ResolveFault)) (f : Stop ResolveFault) → IsErrAnd r (λ y. y ≡ f) → Resolves script (Err f) → Resolves script r
resolves_at script (Ok x) f is owed = absurd is
resolves_at script (Err y) f is owed = rw is owed
