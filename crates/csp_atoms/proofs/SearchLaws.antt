-- Laws of binary search in a rising list of atoms.
use Rattle.csp_atoms.proofs.Prelude.{◌≡◌, ℕ, zero, suc, ◌<◌, ◌≤◌, Bool, true, false, cond, ◌||◌, refl, sym, ◌∙◌, ap, subst, inl, inr, List, [], ◌∷◌, length, get_or, Option, Some, None, arith, insert, is_some, false≢true, true≢false, less, same, count_before, stands_at, AllAbove, IsRising, has_atom, place_of, with_atom, one_more, Atom}
use Rattle.csp_atoms.proofs.OrderLaws.{same_itself, less-trans, less_itself, before_from_less, cases_atoms}
use Rattle.csp_atoms.proofs.ListLaws.{AllAbove-trans, place_not_before}

pub count_le_length : (xs : List Atom) (a : Atom) → count_before xs a ≤ length xs
count_le_length [] a = omega arith
count_le_length (x ∷ xs) a =
    elim (less x a) as (λ t. cond t (suc (count_before xs a)) 0 ≤ length (x ∷ xs)) [
      | true ↦ omega (arith, count_le_length xs a)
      | false ↦ omega arith
    ]

above_at : (a : Atom) (xs : List Atom) (k : ℕ) (d : Atom) → AllAbove a xs → k < length xs → less a (get_or xs k d) ≡ true
above_at a [] k d r l = absurd (omega arith)
above_at a (x ∷ xs) zero d r l = r.0
above_at a (x ∷ xs) (suc k) d r l = above_at a xs k d r.1 (omega arith)

-- what stands before the atom is counted
pub counted : (xs : List Atom) (a : Atom) (k : ℕ) (d : Atom) → IsRising xs → k < length xs → less (get_or xs k d) a ≡ true → k < count_before xs a
counted [] a k d r l h = absurd (omega arith)
counted (x ∷ xs) a zero d r l h = rw h (omega arith)
counted (x ∷ xs) a (suc k) d r l h =
    let first : less x a ≡ true = less-trans x (get_or xs k d) a (above_at x xs k d r.0 (omega arith)) h in
    let rest : k < count_before xs a = counted xs a k d r.1 (omega arith) h in
    rw first (omega arith)

-- and nothing else is
pub not_counted : (xs : List Atom) (a : Atom) (k : ℕ) (d : Atom) → k < length xs → less (get_or xs k d) a ≡ false → count_before xs a ≤ k
not_counted [] a k d l h = absurd (omega arith)
not_counted (x ∷ xs) a zero d l h = rw h (omega arith)
not_counted (x ∷ xs) a (suc k) d l h =
    let rest : count_before xs a ≤ k = not_counted xs a k d (omega arith) h in
    elim (less x a) as (λ t. cond t (suc (count_before xs a)) 0 ≤ suc k) [
      | true ↦ omega arith
      | false ↦ omega arith
    ]

-- ---- a place beyond the end, and one within

pub stands_beyond : (xs : List Atom) (k : ℕ) (a : Atom) → length xs ≤ k → stands_at xs k a ≡ false
stands_beyond [] k a l = refl
stands_beyond (x ∷ xs) zero a l = absurd (omega arith)
stands_beyond (x ∷ xs) (suc k) a l = stands_beyond xs k a (omega arith)

pub stands_within : (xs : List Atom) (k : ℕ) (a d : Atom) → k < length xs → stands_at xs k a ≡ same (get_or xs k d) a
stands_within [] k a d l = absurd (omega arith)
stands_within (x ∷ xs) zero a d l = refl
stands_within (x ∷ xs) (suc k) a d l = stands_within xs k a d (omega arith)

-- ---- what stands at the place of an atom decides

place_more : (t : Bool) (n : ℕ) → one_more (cond t (Some n) None) ≡ cond t (Some (suc n)) None
place_more true n = ap Some (omega arith)
place_more false n = refl

pub place_found : (xs : List Atom) (a : Atom) → IsRising xs → place_of xs a ≡ cond (stands_at xs (count_before xs a) a) (Some (count_before xs a)) None
place_found [] a r = refl
place_found (x ∷ xs) a r =
    elim (cases_atoms x a) [
      | inl h ↦ let b = before_from_less x a h in rw (b.is_before, b.not_same) (ap one_more (place_found xs a r.1) ∙ place_more (stands_at xs (count_before xs a) a) (count_before xs a))
      | inr o ↦ elim o [
        | inl e ↦ subst (λ z. place_of (x ∷ xs) z ≡ cond (stands_at (x ∷ xs) (count_before (x ∷ xs) z) z) (Some (count_before (x ∷ xs) z)) None) e (rw (less_itself x, same_itself x))
        | inr h ↦ let b = before_from_less a x h in rw (b.not_back, b.not_same_back) (ap one_more (place_not_before a xs (AllAbove-trans a x xs h r.0)))
      ]
    ]

some_more : (o : Option ℕ) → is_some (one_more o) ≡ is_some o
some_more None = refl
some_more (Some n) = refl

pub has_place : (xs : List Atom) (a : Atom) → is_some (place_of xs a) ≡ has_atom xs a
has_place [] a = refl
has_place (x ∷ xs) a =
    elim (same x a) as (λ t. is_some (cond t (Some 0) (one_more (place_of xs a))) ≡ (t || has_atom xs a)) [
      | true ↦ refl
      | false ↦ some_more (place_of xs a) ∙ has_place xs a
    ]

pub with_present : (xs : List Atom) (a : Atom) → IsRising xs → stands_at xs (count_before xs a) a ≡ true → with_atom xs a ≡ xs
with_present [] a r s = absurd (false≢true s)
with_present (x ∷ xs) a r s =
    elim (cases_atoms x a) [
      | inl h ↦ let b = before_from_less x a h in
          rw (b.not_back, b.is_before) (ap (λ zs. x ∷ zs) (with_present xs a r.1 (rw b.is_before at s)))
      | inr o ↦ elim o [
        | inl e ↦ subst (λ z. with_atom (x ∷ xs) z ≡ x ∷ xs) e (rw (less_itself x))
        | inr h ↦ let b = before_from_less a x h in absurd (false≢true (sym b.not_same_back ∙ rw b.not_back at s))
      ]
    ]

pub with_absent : (xs : List Atom) (a : Atom) → IsRising xs → stands_at xs (count_before xs a) a ≡ false → with_atom xs a ≡ insert xs (count_before xs a) a
with_absent [] a r s = refl
with_absent (x ∷ xs) a r s =
    elim (cases_atoms x a) [
      | inl h ↦ let b = before_from_less x a h in
          rw (b.not_back, b.is_before) (ap (λ zs. x ∷ zs) (with_absent xs a r.1 (rw b.is_before at s)))
      | inr o ↦ elim o [
        | inl e ↦ absurd (true≢false (sym (same_itself x) ∙ rw (less_itself x) at (subst (λ z. stands_at (x ∷ xs) (count_before (x ∷ xs) z) z ≡ false) (sym e) s)))
        | inr h ↦ let b = before_from_less a x h in rw (b.is_before, b.not_back)
      ]
    ]

-- ---- the same, of a place that was found

pub place_some : (xs : List Atom) (a : Atom) (p : ℕ) → IsRising xs → p ≡ count_before xs a → stands_at xs p a ≡ true → Some p ≡ place_of xs a
place_some xs a p r e s =
    let t : stands_at xs (count_before xs a) a ≡ true = subst (λ q. stands_at xs q a ≡ true) e s in
    ap Some e ∙ sym (place_found xs a r ∙ ap (λ b. cond b (Some (count_before xs a)) None) t)

pub place_none : (xs : List Atom) (a : Atom) (p : ℕ) → IsRising xs → p ≡ count_before xs a → stands_at xs p a ≡ false → None ≡ place_of xs a
place_none xs a p r e s =
    let t : stands_at xs (count_before xs a) a ≡ false = subst (λ q. stands_at xs q a ≡ false) e s in
    sym (place_found xs a r ∙ ap (λ b. cond b (Some (count_before xs a)) None) t)

pub present : (xs : List Atom) (a : Atom) (p : ℕ) → IsRising xs → p ≡ count_before xs a → stands_at xs p a ≡ true → xs ≡ with_atom xs a
present xs a p r e s = sym (with_present xs a r (subst (λ q. stands_at xs q a ≡ true) e s))

pub absent : (xs : List Atom) (a : Atom) (p : ℕ) → IsRising xs → p ≡ count_before xs a → stands_at xs p a ≡ false → insert xs p a ≡ with_atom xs a
absent xs a p r e s = ap (λ q. insert xs q a) e ∙ sym (with_absent xs a r (subst (λ q. stands_at xs q a ≡ false) e s))

-- ---- the same, where the list is read through a slice of it

pub present_in : (xs ys zs : List Atom) (a : Atom) (p : ℕ) (t : Bool) → ys ≡ xs → zs ≡ xs → IsRising xs → p ≡ count_before ys a → t ≡ stands_at zs p a → t ≡ true → xs ≡ with_atom xs a
present_in xs ys zs a p t e f r h s g =
    present xs a p r (h ∙ ap (λ l. count_before l a) e) (ap (λ l. stands_at l p a) (sym f) ∙ sym s ∙ g)

pub absent_in : (xs ys zs : List Atom) (a : Atom) (p : ℕ) (t : Bool) → ys ≡ xs → zs ≡ xs → IsRising xs → p ≡ count_before ys a → t ≡ stands_at zs p a → t ≡ false → insert xs p a ≡ with_atom xs a
absent_in xs ys zs a p t e f r h s g =
    absent xs a p r (h ∙ ap (λ l. count_before l a) e) (ap (λ l. stands_at l p a) (sym f) ∙ sym s ∙ g)

pub place_within : (xs ys : List Atom) (a : Atom) (p : ℕ) → ys ≡ xs → p ≡ count_before ys a → p ≤ length xs
place_within xs ys a p e h = let n : p ≡ count_before xs a = h ∙ ap (λ l. count_before l a) e in omega (arith, count_le_length xs a)
