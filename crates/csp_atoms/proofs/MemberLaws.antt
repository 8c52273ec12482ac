-- The members of the results of operations on sets of atoms.
use Rattle.csp_atoms.proofs.Prelude.{◌≡◌, Bool, true, false, not, cond, ◌&&◌, ◌||◌, refl, sym, ◌∙◌, ap, subst, inl, inr, List, [], ◌∷◌, filter, false≢true, true≢false, same, AllAbove, IsRising, has_atom, with_atom, union_of, inter_of, diff_of, Atom, or_regroup, and_false, or_swap, or_again}
use Rattle.csp_atoms.proofs.OrderLaws.{same_exact, same_itself, less_itself, before_from_less, cases_atoms}
use Rattle.csp_atoms.proofs.ListLaws.{has_not_before, AllAbove-trans}

pub has-with_atom : (xs : List Atom) (a z : Atom) → has_atom (with_atom xs a) z ≡ (same a z || has_atom xs z)
has-with_atom [] a z = refl
has-with_atom (x ∷ xs) a z =
    elim (cases_atoms x a) [
      | inl h ↦ let b = before_from_less x a h in
          rw (b.not_back, b.is_before) (ap (λ t. same x z || t) (has-with_atom xs a z) ∙ or_swap (same x z) (same a z) (has_atom xs z))
      | inr o ↦ elim o [
        | inl e ↦ subst (λ y. has_atom (with_atom (x ∷ xs) y) z ≡ (same y z || has_atom (x ∷ xs) z)) e (rw (less_itself x) (or_again (same x z) (has_atom xs z)))
        | inr h ↦ rw h
      ]
    ]

pub has-union_of : (xs ys : List Atom) (z : Atom) → has_atom (union_of xs ys) z ≡ (has_atom xs z || has_atom ys z)
has-union_of [] ys z = refl
has-union_of (x ∷ xs) ys z =
    has-with_atom (union_of xs ys) x z ∙ ap (λ t. same x z || t) (has-union_of xs ys z) ∙ or_regroup (same x z) (has_atom xs z) (has_atom ys z)

filter_cases : (p : Atom → Bool) (x z : Atom) (kept whole : List Atom) (t u : Bool) → p x ≡ t → same x z ≡ u → has_atom kept z ≡ (has_atom whole z && p z) → has_atom (cond t (x ∷ kept) kept) z ≡ ((same x z || has_atom whole z) && p z)
filter_cases p x z kept whole true true e f h = rw f (sym (ap p (sym (same_exact x z f)) ∙ e))
filter_cases p x z kept whole true false e f h = rw f h
filter_cases p x z kept whole false true e f h =
    let none : p z ≡ false = ap p (sym (same_exact x z f)) ∙ e in
    h ∙ ap (λ t. has_atom whole z && t) none ∙ and_false (has_atom whole z) ∙ rw f (sym none)
filter_cases p x z kept whole false false e f h = rw f h

pub has-filter : (p : Atom → Bool) (xs : List Atom) (z : Atom) → has_atom (filter p xs) z ≡ (has_atom xs z && p z)
has-filter p [] z = refl
has-filter p (x ∷ xs) z = filter_cases p x z (filter p xs) xs (p x) (same x z) refl refl (has-filter p xs z)

pub has-inter_of : (xs ys : List Atom) (z : Atom) → has_atom (inter_of xs ys) z ≡ (has_atom xs z && has_atom ys z)
has-inter_of xs ys z = has-filter (has_atom ys) xs z

pub has-diff_of : (xs ys : List Atom) (z : Atom) → has_atom (diff_of xs ys) z ≡ (has_atom xs z && not (has_atom ys z))
has-diff_of xs ys z = has-filter (λ a. not (has_atom ys a)) xs z

-- ---- extensionality

-- rising lists with the same members are equal
has_first : (x : Atom) (xs : List Atom) → has_atom (x ∷ xs) x ≡ true
has_first x xs = rw (same_itself x)

first_of_same : (x : Atom) (xs : List Atom) (y : Atom) (ys : List Atom) → AllAbove x xs → AllAbove y ys → ((z : Atom) → has_atom (x ∷ xs) z ≡ has_atom (y ∷ ys) z) → x ≡ y
first_of_same x xs y ys r s same_members =
    elim (cases_atoms x y) [
      | inl h ↦ absurd (true≢false (sym (has_first x xs) ∙ same_members x ∙ has_not_before x (y ∷ ys) (h, AllAbove-trans x y ys h s)))
      | inr o ↦ elim o [
        | inl e ↦ e
        | inr h ↦ absurd (true≢false (sym (has_first y ys) ∙ sym (same_members y) ∙ has_not_before y (x ∷ xs) (h, AllAbove-trans y x xs h r)))
      ]
    ]

rest_cases : (t : Bool) (x z : Atom) (xs ys : List Atom) → same x z ≡ t → AllAbove x xs → AllAbove x ys → (t || has_atom xs z) ≡ (t || has_atom ys z) → has_atom xs z ≡ has_atom ys z
rest_cases true x z xs ys e r s h =
    let is = same_exact x z e in
    subst (λ a. has_atom xs a ≡ has_atom ys a) is (has_not_before x xs r ∙ sym (has_not_before x ys s))
rest_cases false x z xs ys e r s h = h

pub same_set : (xs ys : List Atom) → IsRising xs → IsRising ys → ((z : Atom) → has_atom xs z ≡ has_atom ys z) → xs ≡ ys
same_set [] [] r s h = refl
same_set [] (y ∷ ys) r s h = absurd (false≢true (h y ∙ has_first y ys))
same_set (x ∷ xs) [] r s h = absurd (false≢true (sym (h x) ∙ has_first x xs))
same_set (x ∷ xs) (y ∷ ys) r s h =
    let first : x ≡ y = first_of_same x xs y ys r.0 s.0 h in
    let above : AllAbove x ys = subst (λ z. AllAbove z ys) (sym first) s.0 in
    let members : (z : Atom) → has_atom (x ∷ xs) z ≡ has_atom (x ∷ ys) z = subst (λ w. (z : Atom) → has_atom (x ∷ xs) z ≡ has_atom (w ∷ ys) z) (sym first) h in
    let rest = same_set xs ys r.1 s.1 (λ z. rest_cases (same x z) x z xs ys refl r.0 above (members z)) in
    λ i. first i ∷ rest i
