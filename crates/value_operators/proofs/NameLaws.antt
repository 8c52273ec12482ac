-- Names in an environment.
use Rattle.value_operators.proofs.Prelude.{◌≡◌, ℕ, zero, suc, ◌+◌, ◌<◌, ◌≤◌, List, [], ◌∷◌, ◌++◌, Some, Ok, Err, false, length, get_or, refl, ap, ◌∙◌, eq-eqb, arith, nat_eq, cond, slice_get, Env, bound_to, bound_value, Kind, Atom, ArePlaces, numbered_from, with_bound, slice_get_read, Value, One}

pub with_bound-last : (bs : List (ℕ × Atom)) (b : ℕ × Atom) (env : Env) → with_bound (bs ++ (b ∷ [])) env ≡ (b.0, One b.1) ∷ with_bound bs env
with_bound-last [] b env = refl
with_bound-last (c ∷ bs) b env = with_bound-last bs b ((c.0, One c.1) ∷ env)

one_here : (env : Env) (y x : ℕ) (v : Value) → y ≡ x → bound_value ((y, v) ∷ env) x ≡ Ok v
one_here env y x v e = ap (λ b. cond b (Ok v) (bound_value env x)) (eq-eqb y x e)

other_number : (y x : ℕ) → (y ≡ x → ⊥) → nat_eq y x ≡ false
other_number y x h = grind arith

one_past : (env : Env) (y x : ℕ) (v : Value) → (y ≡ x → ⊥) → bound_value ((y, v) ∷ env) x ≡ bound_value env x
one_past env y x v e = ap (λ b. cond b (Ok v) (bound_value env x)) (other_number y x e)

pub named_here : (rest front : List (ℕ × Atom)) (last : ℕ × Atom) (env : Env) (x : ℕ) → rest ≡ front ++ (last ∷ []) → last.0 ≡ x → bound_value (with_bound rest env) x ≡ Ok (One last.1)
named_here rest front last env x is same =
    ap (λ bs. bound_value (with_bound bs env) x) is ∙ (ap (λ all. bound_value all x) (with_bound-last front last env) ∙ one_here (with_bound front env) last.0 x (One last.1) same)

pub named_past : (rest front : List (ℕ × Atom)) (last : ℕ × Atom) (env : Env) (x : ℕ) → rest ≡ front ++ (last ∷ []) → (last.0 ≡ x → ⊥) → bound_value (with_bound rest env) x ≡ bound_value (with_bound front env) x
named_past rest front last env x is other =
    ap (λ bs. bound_value (with_bound bs env) x) is ∙ (ap (λ all. bound_value all x) (with_bound-last front last env) ∙ one_past (with_bound front env) last.0 x (One last.1) other)

-- parameters whose numbers are their places
placed_as : (params : List ℕ) (args : List Value) (k : ℕ) → length args ≡ length params → ((i : ℕ) → i < length params → get_or params i 0 ≡ k + i) → bound_to params args ≡ numbered_from k args
placed_as [] [] k same h = refl
placed_as [] (v ∷ vs) k same h = absurd (omega arith)
placed_as (x ∷ xs) [] k same h = absurd (omega arith)
placed_as (x ∷ xs) (v ∷ vs) k same h =
    let first : x ≡ k = (let at : x ≡ k + 0 = h 0 (omega arith) in omega arith) in
    let others : bound_to xs vs ≡ numbered_from (k + 1) vs =
    placed_as xs vs (k + 1) (omega arith) (λ i lt. let at : get_or xs i 0 ≡ k + suc i = h (suc i) (omega arith) in omega arith) in
    (λ i. (first i, v) ∷ others i)

pub placed_whole : (params : List ℕ) (args : List Value) → length args ≡ length params → ArePlaces params → bound_to params args ≡ numbered_from 0 args
placed_whole params args same places = placed_as params args 0 same (λ i lt. let at : get_or params i 0 ≡ i = places i lt in omega arith)

placed_some : (vs : List Value) (k s : ℕ) (v : Value) → slice_get vs s ≡ Some v → bound_value (numbered_from k vs) (k + s) ≡ Ok v
placed_some [] k s v h = absurd (cc)
placed_some (w ∷ vs) k zero v h = let same : w ≡ v = cc in one_here (numbered_from (k + 1) vs) k (k + 0) w (omega arith) ∙ ap (λ z. Ok z) same
placed_some (w ∷ vs) k (suc s) v h =
    let next : k + suc s ≡ k + 1 + s = omega arith in
    one_past (numbered_from (k + 1) vs) k (k + suc s) w (λ e. omega arith) ∙ (ap (bound_value (numbered_from (k + 1) vs)) next ∙ placed_some vs (k + 1) s v h)

placed_none : (vs : List Value) (k s : ℕ) → length vs ≤ s → bound_value (numbered_from k vs) (k + s) ≡ Err Kind
placed_none [] k s h = refl
placed_none (w ∷ vs) k zero h = absurd (omega arith)
placed_none (w ∷ vs) k (suc s) h =
    let next : k + suc s ≡ k + 1 + s = omega arith in
    one_past (numbered_from (k + 1) vs) k (k + suc s) w (λ e. omega arith) ∙ (ap (bound_value (numbered_from (k + 1) vs)) next ∙ placed_none vs (k + 1) s (omega arith))

pub placed_here : (vs : List Value) (s : ℕ) (v : Value) → s < length vs → v ≡ get_or vs s v → bound_value (numbered_from 0 vs) s ≡ Ok v
placed_here vs s v lt is = let number : s ≡ 0 + s = omega arith in ap (bound_value (numbered_from 0 vs)) number ∙ placed_some vs 0 s v (slice_get_read vs (length vs) s v refl lt is)

pub placed_past : (vs : List Value) (s : ℕ) → length vs ≤ s → bound_value (numbered_from 0 vs) s ≡ Err Kind
placed_past vs s past = let number : s ≡ 0 + s = omega arith in ap (bound_value (numbered_from 0 vs)) number ∙ placed_none vs 0 s past
