-- The events of blocks, by the words of the blocks.
use Rattle.csp_base.proofs.Prelude.{◌≡◌, ℕ, ◌+◌, ◌-◌, ◌*◌, ◌/◌, ◌%◌, ◌^◌, ◌<◌, ◌≤◌, true, false, ◌||◌, List, [], ◌∷◌, ◌++◌, length, refl, sym, ap, inl, inr, le_refl, ◌∙◌, subst, arith, ◌==◌, has, has_bit, word_events, events_of, word_at, AreBlocksFrom}
use Rattle.csp_base.proofs.Standard.{cases_lt, cases_order, eq-eqb, ne_eqb, false≢true, bit_at-zero, or-false}
use Rattle.csp_base.proofs.Rising.{RisesFrom, RisesFrom-weaken, RisesFrom-append, has_below, has-append}
use Rattle.csp_base.proofs.Words.{RisesFrom-word_events, word_events_above, has-word_events}

pub AreBlocksFrom-weaken : (m n : ℕ) (ps : List (ℕ × ℕ)) → m ≤ n → AreBlocksFrom n ps → AreBlocksFrom m ps
AreBlocksFrom-weaken m n [] l r = tt
AreBlocksFrom-weaken m n (p ∷ ps) l r = (let h : n ≤ p.0 = r.0 in omega arith, r.1, r.2, r.3, r.4)

pub word_at_below : (n : ℕ) (ps : List (ℕ × ℕ)) (b : ℕ) → AreBlocksFrom n ps → b < n → word_at ps b ≡ 0
word_at_below n [] b r l = refl
word_at_below n (p ∷ ps) b r l =
    let h : n ≤ p.0 = r.0 in
    rw (ne_eqb p.0 b (omega arith)) (rw (word_at_below (p.0 + 1) ps b r.4 (omega arith)))

pub word_at-append : (ps qs : List (ℕ × ℕ)) (b : ℕ) → word_at (ps ++ qs) b ≡ word_at ps b + word_at qs b
word_at-append [] qs b = omega arith
word_at-append (p ∷ ps) qs b = rw (word_at-append ps qs b) (omega arith)

-- the word at the first block's number
pub word_at_first : (p : ℕ × ℕ) (ps : List (ℕ × ℕ)) → AreBlocksFrom (p.0 + 1) ps → word_at (p ∷ ps) p.0 ≡ p.1
word_at_first p ps r = rw (eq-eqb p.0 p.0 refl, word_at_below (p.0 + 1) ps p.0 r (omega arith)) (omega arith)

pub word_at_later : (p : ℕ × ℕ) (ps : List (ℕ × ℕ)) (b : ℕ) → (p.0 ≡ b → ⊥) → word_at (p ∷ ps) b ≡ word_at ps b
word_at_later p ps b n = rw (ne_eqb p.0 b n) (omega arith)

pub has_bit-zero : (k : ℕ) → has_bit 0 k ≡ false
has_bit-zero k = ap (λ n. n == 1) (bit_at-zero k)

-- the events of a word end before the next word's first
pub word_events_under : (from w x : ℕ) → has (word_events 64 from w) x ≡ true → x < from + 64
word_events_under from w x e =
    elim (cases_lt x (from + 64)) [
      | inl l ↦ l
      | inr l ↦ absurd (false≢true (sym (word_events_above 64 from w x l) ∙ e))
    ]

pub RisesFrom-events_of : (n : ℕ) (ps : List (ℕ × ℕ)) → AreBlocksFrom n ps → RisesFrom (64 * n) (events_of ps)
RisesFrom-events_of n [] r = tt
RisesFrom-events_of n (p ∷ ps) r =
    let h : n ≤ p.0 = r.0 in
    RisesFrom-append (64 * n) (64 * (p.0 + 1)) (word_events 64 (64 * p.0) p.1) (events_of ps) (omega arith)
    (RisesFrom-weaken (64 * n) (64 * p.0) (word_events 64 (64 * p.0) p.1) (omega arith) (RisesFrom-word_events 64 (64 * p.0) p.1))
    (λ x e. omega (arith, word_events_under (64 * p.0) p.1 x e))
    (RisesFrom-events_of (p.0 + 1) ps r.4)

has_in_first : (p : ℕ × ℕ) (ps : List (ℕ × ℕ)) (k : ℕ) → AreBlocksFrom (p.0 + 1) ps → k < 64 → has (events_of (p ∷ ps)) (64 * p.0 + k) ≡ has_bit (word_at (p ∷ ps) p.0) k
has_in_first p ps k r l =
    let later : has (events_of ps) (64 * p.0 + k) ≡ false = has_below (64 * (p.0 + 1)) (events_of ps) (64 * p.0 + k) (RisesFrom-events_of (p.0 + 1) ps r) (omega arith) in
    has-append (word_events 64 (64 * p.0) p.1) (events_of ps) (64 * p.0 + k)
    ∙ ap (λ b. has (word_events 64 (64 * p.0) p.1) (64 * p.0 + k) || b) later
    ∙ or-false (has (word_events 64 (64 * p.0) p.1) (64 * p.0 + k))
    ∙ has-word_events 64 (64 * p.0) p.1 k l
    ∙ ap (λ w. has_bit w k) (sym (word_at_first p ps r))

-- an event is a member where its bit is set in the word of its block
pub has-events_of : (n : ℕ) (ps : List (ℕ × ℕ)) (b k : ℕ) → AreBlocksFrom n ps → k < 64 → has (events_of ps) (64 * b + k) ≡ has_bit (word_at ps b) k
has-events_of n [] b k r l = sym (has_bit-zero k)
has-events_of n (p ∷ ps) b k r l =
    elim (cases_order p.0 b) [
      | inl e ↦ subst (λ z. has (events_of (p ∷ ps)) (64 * z + k) ≡ has_bit (word_at (p ∷ ps) z) k) e (has_in_first p ps k r.4 l)
      | inr o ↦
          elim o [
            | inl h ↦
                has-append (word_events 64 (64 * p.0) p.1) (events_of ps) (64 * b + k)
                ∙ ap (λ c. c || has (events_of ps) (64 * b + k)) (word_events_above 64 (64 * p.0) p.1 (64 * b + k) (omega arith))
                ∙ has-events_of (p.0 + 1) ps b k r.4 l
                ∙ ap (λ w. has_bit w k) (sym (word_at_later p ps b (omega arith)))
            | inr h ↦
                has_below (64 * p.0) (events_of (p ∷ ps)) (64 * b + k) (RisesFrom-events_of p.0 (p ∷ ps) (le_refl p.0, r.1, r.2, r.3, r.4)) (omega arith)
                ∙ sym (has_bit-zero k)
                ∙ ap (λ w. has_bit w k) (sym (word_at_below p.0 (p ∷ ps) b (le_refl p.0, r.1, r.2, r.3, r.4) h))
          ]
    ]

-- the same for any number, by its block and its place in it
pub has-events_of_at : (n : ℕ) (ps : List (ℕ × ℕ)) (x : ℕ) → AreBlocksFrom n ps → has (events_of ps) x ≡ has_bit (word_at ps (x / 64)) (x % 64)
has-events_of_at n ps x r =
    ap (has (events_of ps)) (let e : x ≡ 64 * (x / 64) + x % 64 = omega arith in e) ∙ has-events_of n ps (x / 64) (x % 64) r (omega arith)

-- numbers below 2 ^ 26 leave room for no more blocks
pub length-blocks : (n : ℕ) (ps : List (ℕ × ℕ)) → AreBlocksFrom n ps → length ps ≤ 2 ^ 26 - n
length-blocks n [] r = omega arith
length-blocks n (p ∷ ps) r =
    let h : n ≤ p.0 = r.0 in
    let g : p.0 < 2 ^ 26 = r.1 in
    omega (arith, length-blocks (p.0 + 1) ps r.4)
