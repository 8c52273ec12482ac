-- Sets of terms that are added behind others: one more, none, and more after more.
use Rattle.determinise.proofs.Prelude.{◌≡◌, ℕ, suc, ◌+◌, ◌<◌, ◌≤◌, inl, inr, true, false, nat_eq, Some, List, [], ◌∷◌, ◌++◌, length, slice_get, refl, sym, ap, subst, ◌∙◌, arith, is_member, pointwise, cases_Bool, cases_lt, cond-true, cond-false, false≢true, get_or_append_left, length-append, list_any_at, slice_get_within, get_or_from_slice_get, get_or-append_seam, with_new, MeetsInOrder, set_at, AreMoreSets, same_list}

-- a set that stands in some place is among the sets
member_at : (sets : List (List ℕ)) (n : ℕ) (x : List ℕ) → n < length sets → set_at sets n ≡ x → is_member (pointwise nat_eq) sets x ≡ true
member_at sets n x below is = list_any_at (λ (y : List ℕ). pointwise nat_eq x y) sets n [] below (rw is (same_list x))

pub no_more : (P : List ℕ → Type 0) (sets : List (List ℕ)) → AreMoreSets P sets sets
no_more P sets = record { longer = omega arith; kept = λ n h. refl; added = λ n a b. absurd (omega arith); apart = λ h. h }

pub more_then_more : (P : List ℕ → Type 0) (a b c : List (List ℕ)) → AreMoreSets P a b → AreMoreSets P b c → AreMoreSets P a c
more_then_more P a b c x y = record {
  longer = omega (arith, x.longer, y.longer);
  kept = λ n h. let inside : n < length b = omega (arith, h, x.longer) in y.kept n inside ∙ x.kept n h;
  added = λ n past below. elim (cases_lt n (length b)) as (λ _. P (set_at c n)) [
    | inl early ↦ subst P (sym (y.kept n early)) (x.added n past early)
    | inr late ↦ y.added n late below
  ];
  apart = λ h. y.apart (x.apart h);
}

pub more_of_kind : (P Q : List ℕ → Type 0) (a b : List (List ℕ)) → ((X : List ℕ) → P X → Q X) → AreMoreSets P a b → AreMoreSets Q a b
more_of_kind P Q a b turn m = record { longer = m.longer; kept = m.kept; added = λ n past below. turn (set_at b n) (m.added n past below); apart = m.apart }

-- one set at the end that was not there
one_more : (P : List ℕ → Type 0) (old : List (List ℕ)) (x : List ℕ) → P x → is_member (pointwise nat_eq) old x ≡ false → AreMoreSets P old (old ++ x ∷ [])
one_more P old x kind new = record {
  longer = omega (arith, length-append old (x ∷ []));
  kept = λ n h. get_or_append_left old (x ∷ []) [] n h;
  added = λ n past below.
      let here : n ≡ length old = at_end n past below in
      subst P (sym (ap (set_at (old ++ x ∷ [])) here ∙ get_or-append_seam old x [] [])) kind;
  apart = λ before m n rises below same. elim (cases_lt n (length old)) as (λ _. ⊥) [
    | inl early ↦
        let first : m < length old = omega arith in
        before m n rises early (sym (get_or_append_left old (x ∷ []) [] m first) ∙ (same ∙ get_or_append_left old (x ∷ []) [] n early))
    | inr late ↦
        let here : n ≡ length old = at_end n late below in
        let first : m < length old = omega arith in
        let stands : set_at old m ≡ x = sym (get_or_append_left old (x ∷ []) [] m first) ∙ (same ∙ (ap (set_at (old ++ x ∷ [])) here ∙ get_or-append_seam old x [] [])) in
        false≢true (sym new ∙ member_at old m x first stands)
  ];
}
  where
    at_end : (n : ℕ) → length old ≤ n → n < length (old ++ x ∷ []) → n ≡ length old
    at_end n past below = omega (arith, length-append old (x ∷ []))

-- a set that is numbered: it is added where it is new
pub numbered_more : (P : List ℕ → Type 0) (old new : List (List ℕ)) (x : List ℕ) → P x → new ≡ with_new (pointwise nat_eq) old x → AreMoreSets P old new
numbered_more P old new x kind is = elim (cases_Bool (is_member (pointwise nat_eq) old x)) as (λ _. AreMoreSets P old new) [
  | inl known ↦ subst (AreMoreSets P old) (sym (is ∙ cond-true (is_member (pointwise nat_eq) old x) old (old ++ x ∷ []) known)) (no_more P old)
  | inr other ↦ subst (AreMoreSets P old) (sym (is ∙ cond-false (is_member (pointwise nat_eq) old x) old (old ++ x ∷ []) other)) (one_more P old x kind other)
]

-- its number is an old one, or the next
pub numbered_in_order : (old new : List (List ℕ)) (x : List ℕ) (n : ℕ) → new ≡ with_new (pointwise nat_eq) old x → slice_get new n ≡ Some x → MeetsInOrder (length old) (n ∷ []) (length new)
numbered_in_order old new x n is at = elim (cases_Bool (is_member (pointwise nat_eq) old x)) as (λ _. MeetsInOrder (length old) (n ∷ []) (length new)) [
  | inl known ↦
      let same : new ≡ old = is ∙ cond-true (is_member (pointwise nat_eq) old x) old (old ++ x ∷ []) known in
      inl (slice_get_within old n x (rw same at at), ap length (sym same))
  | inr other ↦
      let same : new ≡ old ++ x ∷ [] = is ∙ cond-false (is_member (pointwise nat_eq) old x) old (old ++ x ∷ []) other in
      let below : n < length new = slice_get_within new n x at in
      let long : length new ≡ length old + 1 = ap length same ∙ length-append old (x ∷ []) in
      elim (cases_lt n (length old)) as (λ _. MeetsInOrder (length old) (n ∷ []) (length new)) [
        | inl early ↦
            let stands : set_at old n ≡ x = sym (get_or_append_left old (x ∷ []) [] n early) ∙ (ap (λ (ss : List (List ℕ)). set_at ss n) (sym same) ∙ get_or_from_slice_get new n x [] at) in
            absurd (false≢true (sym other ∙ member_at old n x early stands))
        | inr late ↦ inr (omega arith, omega arith)
      ]
]

-- going on after a list of numbers
pub meets_then : (n m k : ℕ) (xs ys : List ℕ) → MeetsInOrder n xs m → MeetsInOrder m ys k → MeetsInOrder n (xs ++ ys) k
meets_then n m k [] ys a b = subst (λ (j : ℕ). MeetsInOrder j ys k) (sym a) b
meets_then n m k (x ∷ xs) ys (inl a) b = inl (a.0, meets_then n m k xs ys a.1 b)
meets_then n m k (x ∷ xs) ys (inr a) b = inr (a.0, meets_then (suc n) m k xs ys a.1 b)
