-- The first event of a word, and the word without it.
use Rattle.csp_base.proofs.Prelude.{◌≡◌, ℕ, ◌+◌, ◌-◌, ◌*◌, ◌%◌, ◌^◌, ◌<◌, ◌≤◌, true, false, ◌||◌, eqb, List, [], ◌∷◌, refl, sym, ap, ◌⊎◌, inl, inr, ◌∙◌, arith, bit_not, w64, count_trailing_zeros, ◌==◌, bit_and, has, has_bit, word_events}
use Rattle.csp_base.proofs.Standard.{cases_eq, cases_lt, eq-eqb, ne_eqb, or_from, or_left, false≢true, bit_at_clear_same, bit_at_clear_other}
use Rattle.csp_base.proofs.Rising.{RisesFrom, has_below, same_members}
use Rattle.csp_base.proofs.Words.{RisesFrom-word_events, word_events_above, has-word_events}
use Rattle.csp_base.proofs.Finds.{lowest_bit}

-- a rising list rises from each number that none of its members is below
rises_above : (m n : ℕ) (xs : List ℕ) → RisesFrom m xs → ((z : ℕ) → has xs z ≡ true → n ≤ z) → RisesFrom n xs
rises_above m n [] r h = tt
rises_above m n (x ∷ xs) r h = (h x (or_left (eqb x x) (has xs x) (eq-eqb x x refl)), r.1)

-- the word without bit k
abbrev pub cleared : ℕ → ℕ → ℕ
cleared w k = bit_and w (bit_not w64 (1 * 2 ^ k % 18446744073709551616))

cleared_same : (w k : ℕ) → k < 64 → has_bit (cleared w k) k ≡ false
cleared_same w k l = ap (λ n. n == 1) (bit_at_clear_same w64 w k l)

cleared_other : (w k j : ℕ) → k < 64 → j < 64 → (j ≡ k → ⊥) → has_bit (cleared w k) j ≡ has_bit w j
cleared_other w k j l m ne = ap (λ n. n == 1) (bit_at_clear_other w64 w k l j m ne)

-- a number before a word's first event, or past its last
outside : (from w z : ℕ) → (z < from) ⊎ (from + 64 ≤ z) → has (word_events 64 from w) z ≡ false
outside from w z (inl l) = has_below from (word_events 64 from w) z (RisesFrom-word_events 64 from w) l
outside from w z (inr l) = word_events_above 64 from w z l

same_but_lowest : (w from k z : ℕ) → k < 64 → has_bit w k ≡ true → has (word_events 64 from w) z ≡ (eqb (from + k) z || has (word_events 64 from (cleared w k)) z)
same_but_lowest w from k z l set =
    elim (cases_lt z from) [
      | inl below ↦ outside from w z (inl below) ∙ sym (or_from _ _ (ne_eqb (from + k) z (omega arith)) (outside from (cleared w k) z (inl below)))
      | inr above ↦
          elim (cases_lt z (from + 64)) [
            | inr past ↦ outside from w z (inr past) ∙ sym (or_from _ _ (ne_eqb (from + k) z (omega arith)) (outside from (cleared w k) z (inr past)))
            | inl before ↦
                let j : ℕ = z - from in
                let place : z ≡ from + j = omega arith in
                let bit : has (word_events 64 from w) z ≡ has_bit w j = ap (has (word_events 64 from w)) place ∙ has-word_events 64 from w j (omega arith) in
                let bit' : has (word_events 64 from (cleared w k)) z ≡ has_bit (cleared w k) j =
                ap (has (word_events 64 from (cleared w k))) place ∙ has-word_events 64 from (cleared w k) j (omega arith) in
                elim (cases_eq j k) [
                  | inl e ↦ bit ∙ ap (has_bit w) e ∙ set ∙ sym (or_left _ _ (eq-eqb (from + k) z (omega arith)))
                  | inr ne ↦
                      bit ∙ sym (cleared_other w k j l (omega arith) ne) ∙ sym bit'
                      ∙ ap (λ b. b || has (word_events 64 from (cleared w k)) z) (sym (ne_eqb (from + k) z (omega arith)))
                ]
          ]
    ]

-- what is left is above the lowest bit
above_lowest : (w from k z : ℕ) → k < 64 → ((j : ℕ) → j < k → has_bit w j ≡ false) → has (word_events 64 from (cleared w k)) z ≡ true → from + k + 1 ≤ z
above_lowest w from k z l clear e =
    elim (cases_lt z from) [
      | inl below ↦ absurd (false≢true (sym (outside from (cleared w k) z (inl below)) ∙ e))
      | inr above ↦
          elim (cases_lt (from + k) z) [
            | inl h ↦ omega arith
            | inr h ↦
                let j : ℕ = z - from in
                let place : z ≡ from + j = omega arith in
                let bit : has_bit (cleared w k) j ≡ true =
                sym (has-word_events 64 from (cleared w k) j (omega arith)) ∙ ap (has (word_events 64 from (cleared w k))) (sym place) ∙ e in
                elim (cases_eq j k) [
                  | inl same ↦ absurd (false≢true (sym (cleared_same w k l) ∙ ap (has_bit (cleared w k)) (sym same) ∙ bit))
                  | inr ne ↦ absurd (false≢true (sym (clear j (omega arith)) ∙ sym (cleared_other w k j l (omega arith) ne) ∙ bit))
                ]
          ]
    ]

pub word_events-cleared : (w from : ℕ) → (w ≡ 0 → ⊥) → w < 2 ^ 64 → word_events 64 from w ≡ (from + count_trailing_zeros 64 w) ∷ word_events 64 from (cleared w (count_trailing_zeros 64 w))
word_events-cleared w from ne l =
    let low = lowest_bit w ne l in
    let k : ℕ = count_trailing_zeros 64 w in
    let rest : List ℕ = word_events 64 from (cleared w k) in
    same_members from from (word_events 64 from w) ((from + k) ∷ rest) (RisesFrom-word_events 64 from w)
    ((omega arith), rises_above from (from + k + 1) rest (RisesFrom-word_events 64 from (cleared w k)) (λ z e. above_lowest w from k z low.0 low.2 e))
    (λ z. same_but_lowest w from k z low.0 low.1)
