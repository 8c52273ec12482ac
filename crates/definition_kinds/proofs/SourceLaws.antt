-- Which vertices ends come from.
use Rattle.definition_kinds.proofs.Prelude.{◌≡◌, ℕ, suc, Bool, true, false, nat_lt, eq-eqb, List, [], ◌∷◌, ◌⊎◌, inl, inr, refl, sym, ap, ◌∙◌, Some, None, slice_get, End, is_last, is_vertex, comes_from, if◌then◌else◌, list_any, or_cases, eqb-true, false≢true}

last_same : (target e : End) → is_last target e ≡ true → e ≡ target
last_same End.Data End.Data h = refl
last_same End.Nothing End.Nothing h = refl
last_same End.Parallel End.Parallel h = refl
last_same _ _ h = absurd (false≢true h)

if_vertex : (b : Bool) (u v : ℕ) → is_vertex v (if b then Some u else None) ≡ true → (b ≡ true) × (u ≡ v)
if_vertex true u v h = (refl, sym (eqb-true v u h))
if_vertex false u v h = absurd (false≢true h)

vertex_if : (b : Bool) (u : ℕ) → b ≡ true → is_vertex u (if b then Some u else None) ≡ true
vertex_if true u h = eq-eqb u u refl
vertex_if false u h = absurd (false≢true h)

-- where an end comes from
abbrev pub Comes : ℕ → End → ℕ → End → Type 0
Comes n target v e = ((v ≡ n) × (e ≡ target)) ⊎ ((nat_lt v n ≡ true) × (e ≡ End.Use v))

at_last : (n : ℕ) (target : End) (v : ℕ) (e : End) → is_vertex v (if is_last target e then Some n else None) ≡ true → Comes n target v e
at_last n target v e h = let p = if_vertex (is_last target e) n v h in inl (sym p.1, last_same target e p.0)

pub source_cases : (n : ℕ) (target : End) (v : ℕ) (e : End) → comes_from n target v e ≡ true → Comes n target v e
source_cases n target v (End.Use d) h =
    let p = if_vertex (nat_lt d n) d v h in
    inr (ap (λ u. nat_lt u n) (sym p.1) ∙ p.0, ap End.Use p.1)
source_cases n target v End.Data h = at_last n target v End.Data h
source_cases n target v End.Process h = at_last n target v End.Process h
source_cases n target v End.Parallel h = at_last n target v End.Parallel h
source_cases n target v End.Nothing h = at_last n target v End.Nothing h

pub from_last : (n : ℕ) (target : End) → is_last target target ≡ true → comes_from n target n target ≡ true
from_last n End.Data h = eq-eqb n n refl
from_last n End.Nothing h = eq-eqb n n refl
from_last n End.Parallel h = eq-eqb n n refl
from_last n End.Process h = absurd (false≢true h)
from_last n (End.Use d) h = absurd (false≢true h)

pub from_use : (n : ℕ) (target : End) (v : ℕ) → nat_lt v n ≡ true → comes_from n target v (End.Use v) ≡ true
from_use n target v h = vertex_if (nat_lt v n) v h

-- an element of a list that passes a test, and its place
pub place_of : {X : Type 0} (p : X → Bool) (xs : List X) → list_any p xs ≡ true → (k : ℕ) × (x : X) × (slice_get xs k ≡ Some x) × (p x ≡ true)
place_of p [] h = absurd (false≢true h)
place_of {X} p (x ∷ xs) h =
    elim (or_cases (p x) (list_any p xs) h) as (λ _. (k : ℕ) × (y : X) × (slice_get (x ∷ xs) k ≡ Some y) × (p y ≡ true)) [
      | inl here ↦ (0, x, refl, here)
      | inr later ↦ let r = place_of p xs later in (suc r.0, r.1, r.2, r.3)
    ]
