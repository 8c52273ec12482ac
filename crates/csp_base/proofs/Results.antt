-- Results: what follows from what several calls say of one, and what is made of it.
use Rattle.csp_base.proofs.Prelude.{◌≡◌, Result, Ok, Err, List, [], ◌∷◌, ◌++◌, ap, sym, subst, ◌∙◌, IfOk, IsOkAnd, MatchResult}

-- ---- several facts of each success

pub if_both : {T E : Type 0} (r : Result T E) (P Q R : T → Type 0) → IfOk r P → IfOk r Q → ((x : T) → P x → Q x → R x) → IfOk r R
if_both (Ok x) P Q R p q f = f x p q
if_both (Err e) P Q R p q f = tt

-- ---- what was made, and put at the end

-- what follows from all that is known of what was made
pub made_then : {T E : Type 0} (made : Result T E) (P Q : T → Type 0) (G : Type 0) → IfOk made P → IsOkAnd made Q → ((x : T) → P x → Q x → G) → G
made_then (Ok x) P Q G p q f = f x p q
made_then (Err e) P Q G p q f = absurd q

-- what was made, with what holds of it
pub was_made : {T E : Type 0} (made : Result T E) (P Q : T → Type 0) → IsOkAnd made P → IfOk made Q → (x : T) × P x × Q x
was_made (Ok x) P Q p q = (x, p, q)
was_made (Err e) P Q p q = absurd p

pub pushed : {T E : Type 0} (made : Result T E) (value : T) (old new : List T) → IfOk made (λ x. x ≡ value) → IsOkAnd made (λ x. new ≡ old ++ x ∷ []) → new ≡ old ++ value ∷ []
pushed (Ok x) value old new is put = put ∙ ap (λ y. old ++ y ∷ []) is
pushed (Err e) value old new is put = absurd put

-- ---- what is made of a result by a function of what was made

-- whatever is made comes of what was made, and an error is handed on
abbrev pub Comes : {T U E : Type 0} → Result T E → (T → U → Type 0) → Result U E → Type 0
Comes made R result = MatchResult made (λ x. IsOkAnd result (R x)) (λ e. result ≡ Err e)

pub if_map : {T U E : Type 0} (made : Result T E) (R : T → U → Type 0) (result : Result U E) (f : T → U) (P : T → Type 0) (Q : U → Type 0)
    → Comes made R result → ((x : T) (y : U) → R x y → y ≡ f x) → ((x : T) → P x → Q (f x)) → IfOk made P → IfOk result Q
if_map (Ok x) R (Ok y) f P Q comes is step p = subst Q (sym (is x y comes)) (step x p)
if_map (Ok x) R (Err e) f P Q comes is step p = absurd comes
if_map (Err e) R r f P Q comes is step p = subst (λ z. IfOk z Q) (sym comes) tt
