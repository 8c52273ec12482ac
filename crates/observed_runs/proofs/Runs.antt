-- Runs that are looked for where a place is given.
use Rattle.observed_runs.proofs.Prelude.{◌≡◌, Result, Ok, Err, Option, Some, None, refl, sym, subst, IfOk, IsOkAnd, IsSomeAnd, MatchOption, MatchResult}

pub if_some : {T E : Type 0} (made : Result T E) (result : Result (Option T) E) (P : T → Type 0) → MatchResult made (λ x. IsOkAnd result (λ y. y ≡ Some x)) (λ e. result ≡ Err e) → IfOk made P → IfOk result (λ y. IsSomeAnd y P)
if_some (Ok x) (Ok y) P is p = subst (λ z. IsSomeAnd z P) (sym is) p
if_some (Ok x) (Err e) P is p = absurd is
if_some (Err e) r P is p = subst (λ z. IfOk z (λ y. IsSomeAnd y P)) (sym is) tt

-- what holds of what is found, from what holds where there is no place and where there is one
pub either_way : {T E : Type 0} (r : Result (Option T) E) {K : Type 0} (place : Option K) (L : K → T → Type 0) (Q : Option T → Type 0) → IfOk r (λ run. MatchOption place (run ≡ None) (λ k. IsSomeAnd run (L k))) → (place ≡ None → Q None) → ((k : K) (s : T) → place ≡ Some k → L k s → Q (Some s)) → IfOk r Q
either_way (Ok run) None L Q is none some = subst Q (sym is) (none refl)
either_way (Ok None) (Some k) L Q is none some = absurd is
either_way (Ok (Some s)) (Some k) L Q is none some = some k s refl is
either_way (Err e) place L Q is none some = tt
