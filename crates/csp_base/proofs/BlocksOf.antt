-- The blocks of the events of blocks are those blocks.
use Rattle.csp_base.proofs.Prelude.{◌≡◌, ℕ, zero, suc, ◌+◌, ◌*◌, ◌/◌, ◌%◌, ◌^◌, ◌<◌, ◌≤◌, Bool, true, false, cond, eqb, List, [], ◌∷◌, ◌++◌, refl, sym, ap, inl, inr, ◌∙◌, add-one, pow-suc, arith, has_bit, word_events, events_of, AreBlocksFrom, with_bit, blocks_of}
use Rattle.csp_base.proofs.Standard.{cases_eq, eq-eqb, ne_eqb, eqb-true, eqb-false, bit_at_lowest}
use Rattle.csp_base.proofs.Finds.{half_lt}

with_bit-ahead : (number bit : ℕ) (ps : List (ℕ × ℕ)) → AreBlocksFrom (number + 1) ps → with_bit number bit ps ≡ (number, bit) ∷ ps
with_bit-ahead number bit [] r = refl
with_bit-ahead number bit (p ∷ ps) r = let h : number + 1 ≤ p.0 = r.0 in rw (ne_eqb number p.0 (omega arith))

with_bit-same : (number bit word : ℕ) (ps : List (ℕ × ℕ)) → with_bit number bit ((number, word) ∷ ps) ≡ (number, bit + word) ∷ ps
with_bit-same number bit word ps = rw (eq-eqb number number refl)

-- what the blocks of a word's events from bit j on are, in front of the blocks after it
abbrev Block : ℕ → ℕ → ℕ → List (ℕ × ℕ) → List (ℕ × ℕ)
Block number word j qs = cond (eqb word 0) qs ((number, word * 2 ^ j) ∷ qs)

Block-zero : (number word j : ℕ) (qs : List (ℕ × ℕ)) → word ≡ 0 → Block number word j qs ≡ qs
Block-zero number word j qs e = ap (λ b. cond b qs ((number, word * 2 ^ j) ∷ qs)) (eq-eqb word 0 e)

Block-some : (number word j : ℕ) (qs : List (ℕ × ℕ)) → (word ≡ 0 → ⊥) → Block number word j qs ≡ (number, word * 2 ^ j) ∷ qs
Block-some number word j qs e = ap (λ b. cond b qs ((number, word * 2 ^ j) ∷ qs)) (ne_eqb word 0 e)

odd_block : (number word half j : ℕ) (qs : List (ℕ × ℕ)) → word ≡ 1 + 2 * half → AreBlocksFrom (number + 1) qs → with_bit number (2 ^ j) (Block number half (j + 1) qs) ≡ Block number word j qs
odd_block number word half j qs e r =
    let power : 2 ^ (j + 1) ≡ 2 ^ j * 2 = ap (λ k. 2 ^ k) (add-one j) ∙ pow-suc 2 j in
    elim (cases_eq half 0) [
      | inl z ↦
          ap (with_bit number (2 ^ j)) (Block-zero number half (j + 1) qs z) ∙ with_bit-ahead number (2 ^ j) qs r
          ∙ ap (λ w. (number, w) ∷ qs) (let one : word ≡ 1 = omega arith in rw one (omega arith))
          ∙ sym (Block-some number word j qs (omega arith))
      | inr z ↦
          ap (with_bit number (2 ^ j)) (Block-some number half (j + 1) qs z) ∙ with_bit-same number (2 ^ j) (half * 2 ^ (j + 1)) qs
          ∙ ap (λ w. (number, w) ∷ qs) (rw (power, e) (omega arith))
          ∙ sym (Block-some number word j qs (omega arith))
    ]

even_block : (number word half j : ℕ) (qs : List (ℕ × ℕ)) → word ≡ 2 * half → Block number half (j + 1) qs ≡ Block number word j qs
even_block number word half j qs e =
    let power : 2 ^ (j + 1) ≡ 2 ^ j * 2 = ap (λ k. 2 ^ k) (add-one j) ∙ pow-suc 2 j in
    elim (cases_eq half 0) [
      | inl z ↦ Block-zero number half (j + 1) qs z ∙ sym (Block-zero number word j qs (omega arith))
      | inr z ↦
          Block-some number half (j + 1) qs z ∙ ap (λ w. (number, w) ∷ qs) (rw (power, e) (omega arith)) ∙ sym (Block-some number word j qs (omega arith))
    ]

blocks_of-word : (n number j word : ℕ) (xs : List ℕ) (qs : List (ℕ × ℕ)) → n + j ≡ 64 → word < 2 ^ n → AreBlocksFrom (number + 1) qs → blocks_of xs ≡ qs
    → blocks_of (word_events n (64 * number + j) word ++ xs) ≡ Block number word j qs
unfolding word_events
blocks_of-word zero number j word xs qs e l r is = is ∙ sym (ap (λ b. cond b qs ((number, word * 2 ^ j) ∷ qs)) (eq-eqb word 0 (omega arith)))
blocks_of-word (suc n) number j word xs qs e l r is =
    let half : ℕ = word / 2 in
    let place : 64 * number + j + 1 ≡ 64 * number + (j + 1) = omega arith in
    let ih : blocks_of (word_events n (64 * number + j + 1) half ++ xs) ≡ Block number half (j + 1) qs =
    ap (λ from. blocks_of (word_events n from half ++ xs)) place ∙ blocks_of-word n number (j + 1) half xs qs (omega arith) (half_lt n word l) r is in
    by (has_bit word 0) refl ih
  where
    by : (b : Bool) → has_bit word 0 ≡ b → blocks_of (word_events n (64 * number + j + 1) (word / 2) ++ xs) ≡ Block number (word / 2) (j + 1) qs
        → blocks_of (cond b ((64 * number + j) ∷ word_events n (64 * number + j + 1) (word / 2)) (word_events n (64 * number + j + 1) (word / 2)) ++ xs) ≡ Block number word j qs
    by true b ih =
        let digit : word % 2 ≡ 1 = sym (bit_at_lowest word) ∙ eqb-true _ 1 b in
        let block : (64 * number + j) / 64 ≡ number = omega arith in
        let bit : (64 * number + j) % 64 ≡ j = omega arith in
        ap (λ ps. with_bit ((64 * number + j) / 64) (2 ^ ((64 * number + j) % 64)) ps) ih
        ∙ (λ i. with_bit (block i) (2 ^ bit i) (Block number (word / 2) (j + 1) qs))
        ∙ odd_block number word (word / 2) j qs (omega arith) r
    by false b ih =
        let digit : word % 2 ≡ 1 → ⊥ = λ d. eqb-false _ 1 b (bit_at_lowest word ∙ d) in
        ih ∙ even_block number word (word / 2) j qs (omega arith)

pub blocks_of-events_of : (n : ℕ) (ps : List (ℕ × ℕ)) → AreBlocksFrom n ps → blocks_of (events_of ps) ≡ ps
blocks_of-events_of n [] r = refl
blocks_of-events_of n (p ∷ ps) r =
    let positive : 0 < p.1 = r.2 in
    ap (λ from. blocks_of (word_events 64 from p.1 ++ events_of ps)) (let e : 64 * p.0 ≡ 64 * p.0 + 0 = omega arith in e)
    ∙ blocks_of-word 64 p.0 0 p.1 (events_of ps) ps refl r.3 r.4 (blocks_of-events_of (p.0 + 1) ps r.4)
    ∙ ap (λ b. cond b ps ((p.0, p.1 * 2 ^ 0) ∷ ps)) (ne_eqb p.1 0 (omega arith))
    ∙ ap (λ w. (p.0, w) ∷ ps) (let e : p.1 * 1 ≡ p.1 = omega arith in e)
