-- Pairs that are marked, one at a time.
use Rattle.observed_runs.proofs.Prelude.{◌≡◌, ℕ, ◌<◌, ◌⊎◌, List, [], ◌∷◌, ◌++◌, length, get_or, set, false, IsTrue, ◌||◌, nat_eq, ◌≢◌, eq-eqb, refl, sym, ap, subst, ◌∙◌, arith, inl, inr, cases_lt, cases_eq, eqb-true, false≢true, or_left, or_right, or_cases, get_or-set_same, get_or-set_other, length-append, with_member, pair_at, HasPair, AreMarked, is_marked, false_from_ne_true, has, has-with_member}
use Rattle.observed_runs.proofs.Growing.{grown, last_pair, listed_last, listed_still, pair_at_left, same_two}

pub unmarked : (pairs : List (ℕ × ℕ)) (seen : List (List ℕ)) (pair : ℕ × ℕ) → AreMarked pairs seen → (HasPair pairs pair → ⊥) → is_marked seen pair.0 pair.1 ≡ false
unmarked pairs seen pair m none = false_from_ne_true (is_marked seen pair.0 pair.1) (λ h. none (m.listed pair.0 pair.1 h))

module _ (seen : List (List ℕ)) (pair : ℕ × ℕ) (room : pair.0 < length seen) where
  abbrev more : List (List ℕ)
  more = set seen pair.0 (with_member pair.1 (get_or seen pair.0 []))

  here : (s : ℕ) → is_marked more pair.0 s ≡ (nat_eq pair.1 s || is_marked seen pair.0 s)
  here s = ap (λ ys. has ys s) (get_or-set_same seen pair.0 _ [] room) ∙ has-with_member pair.1 (get_or seen pair.0 []) s

  elsewhere : (n s : ℕ) → n ≢ pair.0 → is_marked more n s ≡ is_marked seen n s
  elsewhere n s other = ap (λ ys. has ys s) (get_or-set_other seen pair.0 n _ [] other)

  still : (n s : ℕ) → IsTrue (is_marked seen n s) → IsTrue (is_marked more n s)
  still n s h = elim (cases_eq n pair.0) [
    | inl same ↦ subst (λ m. IsTrue (is_marked more m s)) (sym same) (here s ∙ or_right (nat_eq pair.1 s) (is_marked seen pair.0 s) (subst (λ m. IsTrue (is_marked seen m s)) same h))
    | inr other ↦ elsewhere n s other ∙ h
  ]

  either : (n s : ℕ) → IsTrue (is_marked more n s) → (let q : ℕ × ℕ = (n, s) in pair ≡ q) ⊎ IsTrue (is_marked seen n s)
  either n s h = elim (cases_eq n pair.0) [
    | inl same ↦ elim (or_cases (nat_eq pair.1 s) (is_marked seen pair.0 s) (sym (here s) ∙ subst (λ m. IsTrue (is_marked more m s)) same h)) [
      | inl is ↦ inl (same_two pair.0 pair.1 n s (sym same) (eqb-true pair.1 s is))
      | inr was ↦ inr (subst (λ m. IsTrue (is_marked seen m s)) (sym same) was)
    ]
    | inr other ↦ inr (sym (elsewhere n s other) ∙ h)
  ]

  -- one more pair, with its mark
  pub one_more : (pairs : List (ℕ × ℕ)) (old : List (List ℕ)) → AreMarked pairs old → is_marked old pair.0 pair.1 ≡ false → ((n s : ℕ) → is_marked seen n s ≡ is_marked old n s) → AreMarked (pairs ++ pair ∷ []) more
  one_more pairs old m new same = record {
    listed = λ n s h. elim (either n s h) [
      | inl is ↦ subst (HasPair (pairs ++ pair ∷ [])) is (listed_last pairs pair)
      | inr was ↦ listed_still pairs _ _ (grown pairs pair) (m.listed n s (sym (same n s) ∙ was))
    ];
    marked = λ k h. elim (cases_lt k (length pairs)) [
      | inl old ↦ subst (λ (q : ℕ × ℕ). IsTrue (is_marked more q.0 q.1)) (sym (pair_at_left pairs (pair ∷ []) k old)) (still _ _ (same _ _ ∙ m.marked k old))
      | inr end ↦ subst (λ (q : ℕ × ℕ). IsTrue (is_marked more q.0 q.1)) (sym (last_pair pairs pair k end h)) (here pair.1 ∙ or_left _ _ (eq-eqb pair.1 pair.1 refl))
    ];
    distinct = λ j k less h e. elim (cases_lt k (length pairs)) [
      | inl old ↦ m.distinct j k less old (sym (pair_at_left pairs (pair ∷ []) j (omega arith)) ∙ e ∙ pair_at_left pairs (pair ∷ []) k old)
      | inr end ↦
          let below : j < length pairs = omega (arith, length-append pairs (pair ∷ [])) in
          let is : pair_at pairs j ≡ pair = sym (pair_at_left pairs (pair ∷ []) j below) ∙ e ∙ last_pair pairs pair k end h in
          false≢true (sym new ∙ subst (λ (q : ℕ × ℕ). IsTrue (is_marked old q.0 q.1)) is (m.marked j below))
    ];
  }
