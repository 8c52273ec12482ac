-- Counting that stops at a greatest number.
use Rattle.value_operators.proofs.Prelude.{◌≡◌, ℕ, zero, suc, ◌+◌, ◌*◌, ◌<◌, min, List, length, inl, inr, drop, get_or, sym, ap, ◌∙◌, arith, cases_lt, Atom, row_count, drop_read}

-- a factor may stop before
pub stops_left : (x y most : ℕ) → min (min x most * y) most ≡ min (x * y) most
stops_left x zero most = omega arith
stops_left x (suc y) most =
    elim (cases_lt most x) as (λ _. min (min x most * suc y) most ≡ min (x * suc y) most) [
      | inl over ↦
          let e : min x most ≡ most = omega arith in
          let lesser : min (most * suc y) most ≡ most = omega arith in
          let greater : min (x * suc y) most ≡ most = omega arith in
          ap (λ m. min (m * suc y) most) e ∙ lesser ∙ sym greater
      | inr within ↦ let e : min x most ≡ x = omega arith in ap (λ m. min (m * suc y) most) e
    ]

-- one more set
pub count_step : (count next most i : ℕ) (sets : List (List Atom)) (set : List Atom) (whole : ℕ) → i < length sets → set ≡ get_or sets i set
    → next ≡ min (count * length set) most → min (count * row_count (drop i sets)) most ≡ min whole most → min (next * row_count (drop (i + 1) sets)) most ≡ min whole most
count_step count next most i sets set whole within is next_is so_far =
    let rest : ℕ = row_count (drop (i + 1) sets) in
    let here : row_count (drop i sets) ≡ length set * rest = ap row_count (drop_read sets i set within is) in
    ap (λ n. min (n * rest) most) next_is
    ∙ stops_left (count * length set) rest most
    ∙ ap (λ n. min n most) (omega arith)
    ∙ ap (λ n. min (count * n) most) (sym here)
    ∙ so_far

-- a sum of what stopped before
pub sum_stops : (before here x y most : ℕ) → before ≡ min x most → here ≡ min y most → min (before + here) most ≡ min (x + y) most
sum_stops before here x y most b h = omega arith
