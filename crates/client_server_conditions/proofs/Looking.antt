-- What one node shows, read off its tests.
use Rattle.client_server_conditions.proofs.Prelude.{◌≡◌, ℕ, zero, suc, List, [], ◌∷◌, Bool, true, false, not, ◌&&◌, nat_eq, inl, inr, refl, ap, subst, arith, eq-eqb, list_any, cases_Bool, and_parts, and_from, or_cases, or_left, or_right, eqb-true, both_ways, false≢true, not-false, not-true, or_parts, has, is_subset_of, meets_of, common_member, member_of_superset, is_subset_of_from_members, meets_of_from_member, is_possible, AreApart, IsWithin, RoleSets, is_in_turn, AreInTurn, EachShared, HasAllOrNone, splits, takes, refuses, is_out_of_turn, and_second_false}

-- ---- steps

pub in_turn : (next : List (ℕ × ℕ)) (shared : List ℕ) (roles : RoleSets) (opened : Bool) → list_any (is_out_of_turn shared roles opened) next ≡ false → AreInTurn next shared roles opened
in_turn [] shared roles opened h e possible on = absurd (false≢true possible)
in_turn (step ∷ next) shared roles opened h e possible on =
    let n = or_parts (is_out_of_turn shared roles opened step) (list_any (is_out_of_turn shared roles opened) next) h in
    elim (or_cases (nat_eq step.0 e) (is_possible next e) possible) [
      | inl same ↦
          let is = eqb-true step.0 e same in
          elim (cases_Bool (is_in_turn roles opened e)) [
            | inl turn ↦ turn
            | inr not_turn ↦ absurd (both_ways (has shared e && not (is_in_turn roles opened e)) (subst (λ (x : ℕ). (has shared x && not (is_in_turn roles opened x)) ≡ false) is n.0) (and_from (has shared e) (not (is_in_turn roles opened e)) on (ap not not_turn)))
          ]
      | inr later ↦ in_turn next shared roles opened n.1 e later on
    ]

pub out_of_turn : (next : List (ℕ × ℕ)) (shared : List ℕ) (roles : RoleSets) (opened : Bool) → list_any (is_out_of_turn shared roles opened) next ≡ true → AreInTurn next shared roles opened → ⊥
out_of_turn [] shared roles opened h turns = false≢true h
out_of_turn (step ∷ next) shared roles opened h turns = elim (or_cases (is_out_of_turn shared roles opened step) (list_any (is_out_of_turn shared roles opened) next) h) [
  | inl out ↦
      let p = and_parts (has shared step.0) (not (is_in_turn roles opened step.0)) out in
      both_ways (is_in_turn roles opened step.0) (not-true (is_in_turn roles opened step.0) p.1) (turns step.0 (or_left (nat_eq step.0 step.0) (is_possible next step.0) (eq-eqb step.0 step.0 refl)) p.0)
  | inr later ↦ out_of_turn next shared roles opened later (λ e possible on. turns e (or_right (nat_eq step.0 e) (is_possible next e) possible) on)
]

-- ---- acceptances

-- those in the vocabulary, where none of them, or one, is bad
module _ (P : List ℕ → Type 0) (V : List ℕ) (bad : List ℕ → Bool) where
  abbrev is_bad : List ℕ → Bool
  is_bad M = is_subset_of M V && bad M

  pub each_none : ((M : List ℕ) → bad M ≡ false → P M) → (accept : List (List ℕ)) → list_any is_bad accept ≡ false → EachShared P V accept
  each_none keeps [] h k below within = absurd (omega arith)
  each_none keeps (M ∷ Ms) h zero below within = keeps M (and_second_false (is_subset_of M V) (bad M) (or_parts (is_bad M) (list_any is_bad Ms) h).0 (is_subset_of_from_members M V within))
  each_none keeps (M ∷ Ms) h (suc k) below within = each_none keeps Ms (or_parts (is_bad M) (list_any is_bad Ms) h).1 k (omega arith) within

  pub each_some : ((M : List ℕ) → bad M ≡ true → P M → ⊥) → (accept : List (List ℕ)) → list_any is_bad accept ≡ true → EachShared P V accept → ⊥
  each_some breaks [] h each = false≢true h
  each_some breaks (M ∷ Ms) h each = elim (or_cases (is_bad M) (list_any is_bad Ms) h) [
    | inl here ↦ let p = and_parts (is_subset_of M V) (bad M) here in breaks M p.1 (each 0 (omega arith) (member_of_superset M V p.0))
    | inr later ↦ each_some breaks Ms later (λ k below within. each (suc k) (omega arith) within)
  ]

module _ (V R : List ℕ) where
  apart : (M : List ℕ) → meets_of M R ≡ false → AreApart M R
  apart M h e m r = both_ways (meets_of M R) h (meets_of_from_member M R e m r)

  not_apart : (M : List ℕ) → meets_of M R ≡ true → AreApart M R → ⊥
  not_apart M h apart = let x = common_member M R h in apart x.0 x.1 x.2

  has_all : (M : List ℕ) → not (is_subset_of R M) ≡ false → IsWithin R M
  has_all M h = member_of_superset R M (not-false (is_subset_of R M) h)

  lacks_some : (M : List ℕ) → not (is_subset_of R M) ≡ true → IsWithin R M → ⊥
  lacks_some M h all = both_ways (is_subset_of R M) (not-true (is_subset_of R M) h) (is_subset_of_from_members R M all)

  all_or_none : (M : List ℕ) → (meets_of M R && not (is_subset_of R M)) ≡ false → HasAllOrNone R M
  all_or_none M h = elim (cases_Bool (meets_of M R)) [
    | inl meets ↦ inl (has_all M (and_second_false (meets_of M R) (not (is_subset_of R M)) h meets))
    | inr none ↦ inr (apart M none)
  ]

  some_not_all : (M : List ℕ) → (meets_of M R && not (is_subset_of R M)) ≡ true → HasAllOrNone R M → ⊥
  some_not_all M h either =
      let p = and_parts (meets_of M R) (not (is_subset_of R M)) h in
      elim either [ inl all ↦ lacks_some M p.1 all | inr none ↦ not_apart M p.0 none ]

  pub none_takes : (accept : List (List ℕ)) → list_any (takes V R) accept ≡ false → EachShared (λ M. AreApart M R) V accept
  none_takes = each_none (λ M. AreApart M R) V (λ M. meets_of M R) apart

  pub one_takes : (accept : List (List ℕ)) → list_any (takes V R) accept ≡ true → EachShared (λ M. AreApart M R) V accept → ⊥
  one_takes = each_some (λ M. AreApart M R) V (λ M. meets_of M R) not_apart

  pub none_splits : (accept : List (List ℕ)) → list_any (splits V R) accept ≡ false → EachShared (HasAllOrNone R) V accept
  none_splits = each_none (HasAllOrNone R) V (λ M. meets_of M R && not (is_subset_of R M)) all_or_none

  pub one_splits : (accept : List (List ℕ)) → list_any (splits V R) accept ≡ true → EachShared (HasAllOrNone R) V accept → ⊥
  one_splits = each_some (HasAllOrNone R) V (λ M. meets_of M R && not (is_subset_of R M)) some_not_all

  pub none_refuses : (accept : List (List ℕ)) → list_any (refuses V R) accept ≡ false → EachShared (IsWithin R) V accept
  none_refuses = each_none (IsWithin R) V (λ M. not (is_subset_of R M)) has_all

  pub one_refuses : (accept : List (List ℕ)) → list_any (refuses V R) accept ≡ true → EachShared (IsWithin R) V accept → ⊥
  one_refuses = each_some (IsWithin R) V (λ M. not (is_subset_of R M)) lacks_some
