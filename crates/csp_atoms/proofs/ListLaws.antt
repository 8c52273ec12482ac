-- Laws of sets of atoms as rising lists.
use Rattle.csp_atoms.proofs.Prelude.{◌≡◌, ℕ, Bool, true, false, cond, refl, sym, ap, subst, List, [], ◌∷◌, None, filter, kind_of, less, AllAbove, IsRising, AllOfKind, IsOneKind, has_atom, place_of, with_atom, union_of, one_more, Atom}
use Rattle.csp_atoms.proofs.OrderLaws.{less-trans, before_from_less}

-- ---- atoms that come before a list

pub AllAbove-trans : (a b : Atom) (xs : List Atom) → less a b ≡ true → AllAbove b xs → AllAbove a xs
AllAbove-trans a b [] h r = tt
AllAbove-trans a b (x ∷ xs) h r = (less-trans a b x h r.0, AllAbove-trans a b xs h r.1)

pub has_not_before : (a : Atom) (xs : List Atom) → AllAbove a xs → has_atom xs a ≡ false
has_not_before a [] r = refl
has_not_before a (x ∷ xs) r = rw (before_from_less a x r.0).not_same_back (has_not_before a xs r.1)

pub place_not_before : (a : Atom) (xs : List Atom) → AllAbove a xs → place_of xs a ≡ None
place_not_before a [] r = refl
place_not_before a (x ∷ xs) r = rw (before_from_less a x r.0).not_same_back (ap one_more (place_not_before a xs r.1))

pub with_first : (a : Atom) (xs : List Atom) → AllAbove a xs → with_atom xs a ≡ a ∷ xs
with_first a [] r = refl
with_first a (x ∷ xs) r = rw r.0

pub AllAbove-with_atom : (a b : Atom) (xs : List Atom) → less a b ≡ true → AllAbove a xs → AllAbove a (with_atom xs b)
AllAbove-with_atom a b [] h r = (h, tt)
AllAbove-with_atom a b (x ∷ xs) h r =
    elim (less b x) as (λ t. AllAbove a (cond t (b ∷ x ∷ xs) (cond (less x b) (x ∷ with_atom xs b) (x ∷ xs)))) [
      | true ↦ (h, r)
      | false ↦
          elim (less x b) as (λ t. AllAbove a (cond t (x ∷ with_atom xs b) (x ∷ xs))) [
            | true ↦ (r.0, AllAbove-with_atom a b xs h r.1)
            | false ↦ r
          ]
    ]

pub AllAbove-union_of : (a : Atom) (xs ys : List Atom) → AllAbove a xs → AllAbove a ys → AllAbove a (union_of xs ys)
AllAbove-union_of a [] ys r s = s
AllAbove-union_of a (x ∷ xs) ys r s = AllAbove-with_atom a x (union_of xs ys) r.0 (AllAbove-union_of a xs ys r.1 s)

pub AllAbove-filter : (p : Atom → Bool) (a : Atom) (xs : List Atom) → AllAbove a xs → AllAbove a (filter p xs)
AllAbove-filter p a [] r = tt
AllAbove-filter p a (x ∷ xs) r =
    elim (p x) as (λ b. AllAbove a (cond b (x ∷ filter p xs) (filter p xs))) [
      | true ↦ (r.0, AllAbove-filter p a xs r.1)
      | false ↦ AllAbove-filter p a xs r.1
    ]

-- ---- results rise

IsRising-with_cases : (b x : Atom) (xs zs : List Atom) (t u : Bool) → less b x ≡ t → less x b ≡ u → IsRising (x ∷ xs) → (less x b ≡ true → AllAbove x zs × IsRising zs) → IsRising (cond t (b ∷ x ∷ xs) (cond u (x ∷ zs) (x ∷ xs)))
IsRising-with_cases b x xs zs true u e f r ih = ((e, AllAbove-trans b x xs e r.0), r)
IsRising-with_cases b x xs zs false true e f r ih = ih f
IsRising-with_cases b x xs zs false false e f r ih = r

pub IsRising-with_atom : (b : Atom) (xs : List Atom) → IsRising xs → IsRising (with_atom xs b)
IsRising-with_atom b [] r = (tt, tt)
IsRising-with_atom b (x ∷ xs) r =
    IsRising-with_cases b x xs (with_atom xs b) (less b x) (less x b) refl refl r (λ h. (AllAbove-with_atom x b xs h r.0, IsRising-with_atom b xs r.1))

pub IsRising-union_of : (xs ys : List Atom) → IsRising ys → IsRising (union_of xs ys)
IsRising-union_of [] ys s = s
IsRising-union_of (x ∷ xs) ys s = IsRising-with_atom x (union_of xs ys) (IsRising-union_of xs ys s)

pub IsRising-filter : (p : Atom → Bool) (xs : List Atom) → IsRising xs → IsRising (filter p xs)
IsRising-filter p [] r = tt
IsRising-filter p (x ∷ xs) r =
    elim (p x) as (λ b. IsRising (cond b (x ∷ filter p xs) (filter p xs))) [
      | true ↦ (AllAbove-filter p x xs r.0, IsRising-filter p xs r.1)
      | false ↦ IsRising-filter p xs r.1
    ]

-- ---- results are of one kind

pub kind_with_atom : (k : ℕ) (b : Atom) (xs : List Atom) → kind_of b ≡ k → AllOfKind k xs → AllOfKind k (with_atom xs b)
kind_with_atom k b [] h r = (h, tt)
kind_with_atom k b (x ∷ xs) h r =
    elim (less b x) as (λ t. AllOfKind k (cond t (b ∷ x ∷ xs) (cond (less x b) (x ∷ with_atom xs b) (x ∷ xs)))) [
      | true ↦ (h, r)
      | false ↦
          elim (less x b) as (λ t. AllOfKind k (cond t (x ∷ with_atom xs b) (x ∷ xs))) [
            | true ↦ (r.0, kind_with_atom k b xs h r.1)
            | false ↦ r
          ]
    ]

pub kind_union_of : (k : ℕ) (xs ys : List Atom) → AllOfKind k xs → AllOfKind k ys → AllOfKind k (union_of xs ys)
kind_union_of k [] ys r s = s
kind_union_of k (x ∷ xs) ys r s = kind_with_atom k x (union_of xs ys) r.0 (kind_union_of k xs ys r.1 s)

kind_filter : (k : ℕ) (p : Atom → Bool) (xs : List Atom) → AllOfKind k xs → AllOfKind k (filter p xs)
kind_filter k p [] r = tt
kind_filter k p (x ∷ xs) r =
    elim (p x) as (λ b. AllOfKind k (cond b (x ∷ filter p xs) (filter p xs))) [
      | true ↦ (r.0, kind_filter k p xs r.1)
      | false ↦ kind_filter k p xs r.1
    ]

-- a list whose atoms are all of one kind is of one kind, and the other way round
pub one_kind : (k : ℕ) (xs : List Atom) → AllOfKind k xs → IsOneKind xs
one_kind k [] r = tt
one_kind k (x ∷ xs) r = subst (λ l. AllOfKind l xs) (sym r.0) r.1

pub kind_first : (x : Atom) (xs : List Atom) → IsOneKind (x ∷ xs) → AllOfKind (kind_of x) (x ∷ xs)
kind_first x xs r = (refl, r)

pub IsOneKind-filter : (p : Atom → Bool) (xs : List Atom) → IsOneKind xs → IsOneKind (filter p xs)
IsOneKind-filter p [] r = tt
IsOneKind-filter p (x ∷ xs) r = one_kind (kind_of x) (filter p (x ∷ xs)) (kind_filter (kind_of x) p (x ∷ xs) (kind_first x xs r))
