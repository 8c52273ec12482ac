-- The components that are left, as a rising list.
use Rattle.hidden_bounds.proofs.Prelude.{◌≡◌, ◌≢◌, ℕ, zero, suc, ◌+◌, ◌<◌, ◌≤◌, true, nat_eq, List, [], ◌∷◌, ◌++◌, length, take, get_or, min, refl, sym, ap, ◌∙◌, arith, add-one, inl, inr, eqb-true, false≢true, or_cases, or_right, take-suc, append-nil, append_assoc, length-take, has, has_first, RisesFrom, increasing_from_rises, left_from, left_one, standing_at, Standing, IsStrictlyIncreasing}
use Rattle.hidden_bounds.specs.declared.standings.Standing.TheVariants as standing

RisesFrom-later : (m n : ℕ) (xs : List ℕ) → m ≤ n → RisesFrom n xs → RisesFrom m xs
RisesFrom-later m n [] h r = tt
RisesFrom-later m n (x ∷ xs) h r = (let low : n ≤ x = r.0 in omega arith, r.1)

left_rises : (n : ℕ) (ss : List Standing) → RisesFrom n (left_from n ss)
left_rises n [] = tt
left_rises n (standing.Unknown ∷ ss) = (omega arith, rw (add-one) (left_rises (suc n) ss))
left_rises n (standing.Round ∷ ss) = (omega arith, rw (add-one) (left_rises (suc n) ss))
left_rises n (standing.Taken ∷ ss) = RisesFrom-later n (suc n) (left_from (suc n) ss) (omega arith) (left_rises (suc n) ss)

pub left_increases : (ss : List Standing) → IsStrictlyIncreasing (left_from 0 ss)
left_increases ss = increasing_from_rises 0 (left_from 0 ss) (left_rises 0 ss)

later : (n : ℕ) (s : Standing) (xs : List ℕ) (x : ℕ) → has xs x ≡ true → has (left_one n s ++ xs) x ≡ true
later n standing.Unknown xs x h = or_right (nat_eq n x) (has xs x) h
later n standing.Round xs x h = or_right (nat_eq n x) (has xs x) h
later n standing.Taken xs x h = h

-- one that stands in a place and is not taken is listed, and the other way round
pub listed_at : (n : ℕ) (ss : List Standing) (i : ℕ) → i < length ss → standing_at ss i ≢ standing.Taken → has (left_from n ss) (n + i) ≡ true
listed_at n [] i h waits = absurd (omega arith)
listed_at n (standing.Unknown ∷ ss) zero h waits = ap (has (n ∷ left_from (suc n) ss)) (omega arith) ∙ has_first n (left_from (suc n) ss)
listed_at n (standing.Round ∷ ss) zero h waits = ap (has (n ∷ left_from (suc n) ss)) (omega arith) ∙ has_first n (left_from (suc n) ss)
listed_at n (standing.Taken ∷ ss) zero h waits = absurd (waits refl)
listed_at n (s ∷ ss) (suc i) h waits =
    let rest : has (left_from (suc n) ss) (suc n + i) ≡ true = listed_at (suc n) ss i (omega arith) waits in
    later n s (left_from (suc n) ss) (n + suc i) (ap (has (left_from (suc n) ss)) (omega arith) ∙ rest)

unknown_taken : standing.Unknown ≡ standing.Taken → ⊥
unknown_taken h = cc

round_taken : standing.Round ≡ standing.Taken → ⊥
round_taken h = cc

pub stands_at : (n : ℕ) (ss : List Standing) (x : ℕ) → has (left_from n ss) x ≡ true → (i : ℕ) × (x ≡ n + i) × (i < length ss) × (standing_at ss i ≢ standing.Taken)
stands_at n [] x h = absurd (false≢true h)
stands_at n (standing.Taken ∷ ss) x h =
    let r = stands_at (suc n) ss x h in
    let within : r.0 < length ss = r.2 in
    let place : x ≡ suc n + r.0 = r.1 in
    (suc r.0, omega arith, omega arith, r.3)
stands_at n (standing.Unknown ∷ ss) x h = elim (or_cases (nat_eq n x) (has (left_from (suc n) ss) x) h) [
  | inl here ↦ let same : n ≡ x = eqb-true n x here in (0, omega arith, omega arith, unknown_taken)
  | inr there ↦
      let r = stands_at (suc n) ss x there in
      let within : r.0 < length ss = r.2 in
      let place : x ≡ suc n + r.0 = r.1 in
      (suc r.0, omega arith, omega arith, r.3)
]
stands_at n (standing.Round ∷ ss) x h = elim (or_cases (nat_eq n x) (has (left_from (suc n) ss) x) h) [
  | inl here ↦ let same : n ≡ x = eqb-true n x here in (0, omega arith, omega arith, round_taken)
  | inr there ↦
      let r = stands_at (suc n) ss x there in
      let within : r.0 < length ss = r.2 in
      let place : x ≡ suc n + r.0 = r.1 in
      (suc r.0, omega arith, omega arith, r.3)
]

left_push : (n : ℕ) (ss : List Standing) (s : Standing) → left_from n (ss ++ s ∷ []) ≡ left_from n ss ++ left_one (n + length ss) s
left_push n [] s = append-nil (left_one n s) ∙ ap (λ m. left_one m s) (omega arith)
left_push n (x ∷ ss) s =
    let rest = left_push (suc n) ss s in
    ap (λ xs. left_one n x ++ xs) (rest ∙ ap (λ m. left_from (suc n) ss ++ left_one m s) (omega arith)) ∙ sym (append_assoc (left_one n x) (left_from (suc n) ss) (left_one (n + suc (length ss)) s))

pub next_left : (ss : List Standing) (i : ℕ) (parts next : List ℕ) (s d : Standing) → i < length ss → s ≡ get_or ss i d → parts ≡ left_from 0 (take i ss) → next ≡ parts ++ left_one i s
    → next ≡ left_from 0 (take (i + 1) ss)
next_left ss i parts next s d within is so_far added =
    let grown : take i ss ++ s ∷ [] ≡ take (i + 1) ss = rw (add-one) (ap (λ x. take i ss ++ x ∷ []) is ∙ sym (take-suc ss i d within)) in
    let few : length (take i ss) ≡ min i (length ss) = length-take i ss in
    let size : 0 + length (take i ss) ≡ i = omega arith in
    added ∙ ap (λ xs. xs ++ left_one i s) so_far ∙ ap (λ m. left_from 0 (take i ss) ++ left_one m s) (sym size) ∙ sym (left_push 0 (take i ss) s) ∙ ap (left_from 0) grown
