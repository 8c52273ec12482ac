-- What an arc that is added changes, and where arcs begin and end.
use Rattle.digraph.proofs.Prelude.{◌≡◌, ℕ, ◌<◌, ◌==◌, ◌&&◌, ◌||◌, nat_eq, eq-eqb, List, Result, OnOk, OnErr, Ok, Err, ◌∷◌, ◌++◌, length, set, get_or, refl, sym, ap, ◌∙◌, inl, inr, get_or-set_same, get_or-set_other, [], All, AllocError, has, length-set, set-get_or, get_or_past, get_or_read, get_or_default, list_any-append, list_any_at, Any-from_list_any, cases_eq, cases_lt, or_cases, and_parts, eqb-true, ne_eqb, false≢true, nat_eq_equiv, or-false, Digraph, targets_of, has_arc, HasArc, InRange}

-- an arc begins at a vertex
pub HasArc-from : (g : Digraph) (v w : ℕ) → HasArc g v w → v < length g
HasArc-from g v w arc =
    elim (cases_lt v (length g)) as (λ _. v < length g) [
      | inl below ↦ below
      | inr past ↦ absurd (false≢true (rw get_or_past at arc))
    ]

-- the target at a place of a row
pub HasArc-at : (g : Digraph) (v k : ℕ) → k < length (targets_of g v) → HasArc g v (get_or (targets_of g v) k 0)
HasArc-at g v k h = list_any_at (λ y. nat_eq y (get_or (targets_of g v) k 0)) (targets_of g v) k 0 h (eq-eqb _ _ refl)

-- the place of a target in a row
pub place_of_arc : (g : Digraph) (v w : ℕ) → HasArc g v w → (k : ℕ) × (k < length (targets_of g v)) × (get_or (targets_of g v) k 0 ≡ w)
place_of_arc g v w arc =
    let found = Any-from_list_any (λ y. nat_eq y w) (targets_of g v) arc in
    let here = get_or_read (targets_of g v) found.0 found.1 found.2 (sym found.3) 0 in
    (found.0, found.2, sym here ∙ eqb-true found.1 w found.4)

-- where arcs lead from, one arc later
pub has_arc-add : (g : Digraph) (from to : ℕ) → from < length g → (v w : ℕ) → has_arc (set g from (targets_of g from ++ to ∷ [])) v w ≡ (has_arc g v w || (v == from && w == to))
has_arc-add g from to in_range v w =
    elim (cases_eq v from) as (λ _. has_arc (set g from (targets_of g from ++ to ∷ [])) v w ≡ (has_arc g v w || (v == from && w == to))) [
      | inl same ↦ rw (same, eq-eqb from from refl, get_or-set_same g from (targets_of g from ++ to ∷ []) [] in_range, list_any-append (λ y. nat_eq y w) (targets_of g from) (to ∷ [])) (ap (λ b. has (targets_of g from) w || b) (or-false (nat_eq to w) ∙ nat_eq_equiv.symm to w))
      | inr other ↦ rw (get_or-set_other g from v (targets_of g from ++ to ∷ []) [] other, ne_eqb v from other) (sym (or-false (has_arc g v w)))
    ]

pub InRange-add : (g : Digraph) (from to : ℕ) → from < length g → to < length g → InRange g → InRange (set g from (targets_of g from ++ to ∷ []))
InRange-add g from to a b kept v w arc =
    elim (or_cases (has_arc g v w) (v == from && w == to) (rw (has_arc-add g from to a v w) at arc)) as (λ _. w < length (set g from (targets_of g from ++ to ∷ []))) [
      | inl old ↦ rw length-set (kept v w old)
      | inr new ↦ let is : w ≡ to = eqb-true w to (and_parts (v == from) (w == to) new).1 in rw (length-set, is) b
    ]

-- each target in a row is a vertex
pub targets_below : (g : Digraph) (v : ℕ) → InRange g → All (λ w. w < length g) (targets_of g v)
targets_below g v kept k d h =
    rw (get_or_default (targets_of g v) k d 0 h) (kept v (get_or (targets_of g v) k 0) (HasArc-at g v k h))

-- ---- one target more in a row

pub same_rows : (rows : List (List ℕ)) (i : ℕ) (was now : List ℕ) → i < length rows → was ≡ get_or rows i was → now ≡ was → set rows i now ≡ rows
same_rows rows i was now h e f = ap (set rows i) (f ∙ get_or_read rows i was h e []) ∙ set-get_or rows i []

-- after an arc is added, or not for want of memory
pub InRange-either : (result : Result (Unit {0}) AllocError) (old new : Digraph) (from to : ℕ) → from < length old → to < length old → InRange old → OnOk result (new ≡ set old from (targets_of old from ++ to ∷ [])) → OnErr result (new ≡ old) → InRange new
InRange-either (Ok _) old new from to a b kept ok err = rw ok (InRange-add old from to a b kept)
InRange-either (Err _) old new from to a b kept ok err = rw err kept
