-- What stands in lists of processes and in their processes, and what a list gets at its end.
use Rattle.term_pool.proofs.Prelude.{◌≡◌, ◌⊎◌, inl, inr, ℕ, zero, suc, Some, List, [], ◌∷◌, ◌++◌, slice_get, refl, subst, slice_get-append_left, Proc, Has, parts, AddsParts, IsIn, IsInOne}

one_later : (t u s : Proc) (ts : List Proc) → Has ts u ⊎ (t ≡ u) → Has (s ∷ ts) u ⊎ (t ≡ u)
one_later t u s ts (inl h) = inl (suc h.0, h.1)
one_later t u s ts (inr e) = inr e

at_push : (t u : Proc) (ts : List Proc) (k : ℕ) → slice_get (ts ++ t ∷ []) k ≡ Some u → Has ts u ⊎ (t ≡ u)
at_push t u [] zero h = let e : t ≡ u = cc in inr e
at_push t u [] (suc k) h = cc
at_push t u (s ∷ ts) zero h = inl (zero, h)
at_push t u (s ∷ ts) (suc k) h = one_later t u s ts (at_push t u ts k h)

-- a list with one process more at its end has that one alone that is new
pub has_push : (t u : Proc) (ts : List Proc) → Has (ts ++ t ∷ []) u → Has ts u ⊎ (t ≡ u)
has_push t u ts has = at_push t u ts has.0 has.1

has_left : (ps qs : List Proc) (t : Proc) → Has ps t → Has (ps ++ qs) t
has_left ps qs t h = (h.0, slice_get-append_left ps qs h.0 t h.1)

has_right : (ps qs : List Proc) (t : Proc) → Has qs t → Has (ps ++ qs) t
has_right [] qs t h = h
has_right (p ∷ ps) qs t h = let later = has_right ps qs t h in (suc later.0, later.1)

-- what stands in one of some processes stands in one of more of them
pub in_left : (ps qs : List Proc) (u : Proc) → IsInOne ps u → IsInOne (ps ++ qs) u
in_left ps qs u h = record { process = h.process; listed = has_left ps qs h.process h.listed; inside = h.inside }

pub in_right : (ps qs : List Proc) (u : Proc) → IsInOne qs u → IsInOne (ps ++ qs) u
in_right ps qs u h = record { process = h.process; listed = has_right ps qs h.process h.listed; inside = h.inside }

-- what stands in a sub-process stands in the process
pub in_whole : (t u : Proc) → IsInOne (parts t) u → IsInOne (t ∷ []) u
in_whole t u h = record { process = t; listed = (zero, refl); inside = (suc h.inside.0, record { process = h.process; listed = h.listed; inside = h.inside.1 }) }

pub is_whole : (t u : Proc) → t ≡ u → IsInOne (t ∷ []) u
is_whole t u e = record { process = t; listed = (zero, refl); inside = (zero, e) }

only_listed : (t p : Proc) → (k : ℕ) → slice_get (t ∷ []) k ≡ Some p → p ≡ t
only_listed t p zero h = cc
only_listed t p (suc k) h = cc

in_only : (t u : Proc) → IsInOne (t ∷ []) u → IsIn t u
in_only t u h = subst (λ (p : Proc). IsIn p u) (only_listed t h.process h.listed.0 h.listed.1) h.inside

in_right_of : (old : List Proc) (t u : Proc) → Has old u ⊎ IsInOne (t ∷ []) u → Has old u ⊎ IsIn t u
in_right_of old t u (inl h) = inl h
in_right_of old t u (inr h) = inr (in_only t u h)

-- what is added where one process is put
pub adds_parts : (old new : List Proc) (t : Proc) → ((u : Proc) → Has new u → Has old u ⊎ IsInOne (t ∷ []) u) → AddsParts old new t
adds_parts old new t only u has = in_right_of old t u (only u has)
