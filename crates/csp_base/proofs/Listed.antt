-- Lists of numbers by their members: which are listed, and which pass a test.
use Rattle.csp_base.proofs.Prelude.{◌≡◌, ℕ, zero, suc, ◌<◌, Bool, true, false, nat_eq, nat_le, List, [], ◌∷◌, ◌++◌, length, get_or, Some, None, refl, sym, ap, inl, inr, ◌∙◌, arith, eq-eqb, ne_eqb, eqb-true, le-leb, ◌⊎◌, find, has, All, list_any}
use Rattle.csp_base.proofs.Standard.{cases_Bool, cond-true, cond-false, false≢true, or_cases, or_left, or_right, get_or_read, Any-from_list_any, list_any-append, none-some, same_Some}
use Rattle.csp_base.proofs.Booleans.{same_tests}

pub same_number : (a b : ℕ) → nat_eq a b ≡ nat_eq b a
same_number a b = same_tests (nat_eq a b) (nat_eq b a) (λ h. eq-eqb b a (sym (eqb-true a b h))) (λ h. eq-eqb a b (sym (eqb-true b a h)))

-- ---- the members of a list

pub has_first : (x : ℕ) (xs : List ℕ) → has (x ∷ xs) x ≡ true
has_first x xs = or_left (nat_eq x x) (has xs x) (eq-eqb x x refl)

pub has_rest : (y : ℕ) (ys : List ℕ) (x : ℕ) → (y ≡ x → ⊥) → has (y ∷ ys) x ≡ has ys x
has_rest y ys x n = rw (ne_eqb y x n)

pub has_at : (xs : List ℕ) (k : ℕ) → k < length xs → has xs (get_or xs k 0) ≡ true
has_at [] k h = absurd (omega arith)
has_at (x ∷ xs) zero h = has_first x xs
has_at (x ∷ xs) (suc k) h = or_right (nat_eq x (get_or xs k 0)) (has xs (get_or xs k 0)) (has_at xs k (omega arith))

pub has_push_cases : (xs : List ℕ) (x y : ℕ) → has (xs ++ x ∷ []) y ≡ true → (has xs y ≡ true) ⊎ (x ≡ y)
has_push_cases xs x y h = elim (or_cases (has xs y) (has (x ∷ []) y) (sym (list_any-append (λ z. nat_eq z y) xs (x ∷ [])) ∙ h)) [
  | inl old ↦ inl old
  | inr new ↦ elim (or_cases (nat_eq x y) false new) [ inl same ↦ inr (eqb-true x y same) | inr never ↦ absurd (false≢true never) ]
]

pub listed_below : (xs : List ℕ) (n v : ℕ) → All (λ v. v < n) xs → has xs v ≡ true → v < n
listed_below xs n v all h =
    let found = Any-from_list_any (λ y. nat_eq y v) xs h in
    let here = sym (get_or_read xs found.0 found.1 found.2 (sym found.3) 0) in
    let same : v ≡ found.1 = sym (eqb-true found.1 v found.4) in
    rw same (rw here at (all found.0 0 found.2))

-- ---- a member that passes a test

pub any_of : (test : ℕ → Bool) (xs : List ℕ) (x : ℕ) → has xs x ≡ true → test x ≡ true → list_any test xs ≡ true
any_of test [] x h t = absurd (false≢true h)
any_of test (y ∷ ys) x h t = elim (or_cases (nat_eq y x) (has ys x) h) [
  | inl here ↦ or_left (test y) (list_any test ys) (ap test (eqb-true y x here) ∙ t)
  | inr later ↦ or_right (test y) (list_any test ys) (any_of test ys x later t)
]

pub any_member : (test : ℕ → Bool) (xs : List ℕ) → list_any test xs ≡ true → (x : ℕ) × (has xs x ≡ true) × (test x ≡ true)
any_member test [] h = absurd (false≢true h)
any_member test (y ∷ ys) h = elim (or_cases (test y) (list_any test ys) h) [
  | inl here ↦ (y, has_first y ys, here)
  | inr later ↦ let r = any_member test ys later in (r.0, or_right (nat_eq y r.0) (has ys r.0) r.1, r.2)
]

pub find_has : (test : ℕ → Bool) (xs : List ℕ) (x : ℕ) → find test xs ≡ Some x → has xs x ≡ true
find_has test [] x h = absurd (none-some x h)
find_has test (y ∷ ys) x h = elim (cases_Bool (test y)) [
  | inl passes ↦ or_left (nat_eq y x) (has ys x) (eq-eqb y x (same_Some y x (sym (cond-true (test y) (Some y) (find test ys) passes) ∙ h)))
  | inr fails ↦ or_right (nat_eq y x) (has ys x) (find_has test ys x (sym (cond-false (test y) (Some y) (find test ys) fails) ∙ h))
]

-- a list of which no number is found has no member
pub none_found : (xs : List ℕ) (x : ℕ) → find (nat_le 0) xs ≡ None → has xs x ≡ true → ⊥
none_found [] x h k = false≢true k
none_found (y ∷ ys) x h k = none-some y (sym h ∙ cond-true (nat_le 0 y) (Some y) (find (nat_le 0) ys) (le-leb 0 y (omega arith)))
