-- Searches over finitely many numbers: below a bound, and in a list. And a least value.
use Rattle.net_sound.proofs.Prelude.{◌≡◌, ℕ, zero, suc, ◌<◌, ◌⊎◌, inl, inr, List, [], ◌∷◌, IsTrue, ℤ, ◌≤ℤ◌, ◌<ℤ◌, refl, sym, subst, arith, eq-eqb, false≢true, cases_eq, or_cases, or_left, or_right, eqb-true, ints, by_lt_z, has}

-- what holds below n, and at n, holds below n + 1
pub below_suc : (P : ℕ → Type 0) (n : ℕ) → ((j : ℕ) → j < n → P j) → P n → (j : ℕ) → j < suc n → P j
below_suc P n below here j h = elim (cases_eq j n) [ inl e ↦ subst P (sym e) here | inr ne ↦ below j (omega arith) ]

pub search_below : (Q R : ℕ → Type 0) → ((i : ℕ) → Q i ⊎ R i) → (n : ℕ) → ((i : ℕ) × (i < n) × Q i) ⊎ ((i : ℕ) → i < n → R i)
search_below Q R decide zero = inr (λ i h. absurd (omega arith))
search_below Q R decide (suc n) =
    elim (decide n) [
      | inl q ↦ inl (n, omega arith, q)
      | inr r ↦ elim (search_below Q R decide n) [
        | inl found ↦ inl (found.0, let h : found.0 < n = found.1 in omega arith, found.2)
        | inr none ↦ inr (below_suc R n none r)
      ]
    ]

pub search_list : (Q R : ℕ → Type 0) → ((e : ℕ) → Q e ⊎ R e) → (xs : List ℕ) → ((e : ℕ) × IsTrue (has xs e) × Q e) ⊎ ((e : ℕ) → IsTrue (has xs e) → R e)
search_list Q R decide [] = inr (λ e h. absurd (false≢true h))
search_list Q R decide (x ∷ xs) =
    elim (decide x) [
      | inl q ↦ inl (x, or_left _ _ (eq-eqb x x refl), q)
      | inr r ↦ elim (search_list Q R decide xs) [
        | inl found ↦ inl (found.0, or_right _ _ found.1, found.2)
        | inr none ↦ inr (λ e h. elim (or_cases _ _ h) [ inl same ↦ subst R (eqb-true x e same) r | inr rest ↦ none e rest ])
      ]
    ]

pub record IsLeast (P : ℕ → ℤ) (n : ℕ) : Type 0 where
  pub place : ℕ
  pub within : place < n
  pub least : (j : ℕ) → j < n → P place ≤ℤ P j

with_one_more : (P : ℕ → ℤ) (n : ℕ) → IsLeast P n → IsLeast P (suc n)
with_one_more P n r =
    by_lt_z (P n) (P r.place)
    (λ lt. record { place = n; within = omega arith; least = below_suc (λ j. P n ≤ℤ P j) n (λ j h. let le : P r.place ≤ℤ P j = r.least j h in omega (arith, ints)) (omega (arith, ints)) })
    (λ le. record { place = r.place; within = omega arith; least = below_suc (λ j. P r.place ≤ℤ P j) n r.least le })

least_below : (P : ℕ → ℤ) (n : ℕ) → IsLeast P (suc n)
least_below P zero = record { place = 0; within = omega arith; least = λ j h. let e : j ≡ 0 = omega arith in subst (λ k. P 0 ≤ℤ P k) (sym e) (omega (arith, ints)) }
least_below P (suc n) = with_one_more P (suc n) (least_below P n)

-- Among finitely many numbers, at least one, it cannot be that below each there is a lower one.
pub no_descent : (P : ℕ → ℤ) (n : ℕ) → 0 < n → ((i : ℕ) → i < n → (j : ℕ) × (j < n) × (P j <ℤ P i)) → ⊥
no_descent P zero h lower = omega arith
no_descent P (suc n) h lower =
    let r = least_below P n in
    let d = lower r.place r.within in
    let le : P r.place ≤ℤ P d.0 = r.least d.0 d.1 in
    let lt : P d.0 <ℤ P r.place = d.2 in
    omega (arith, ints)
