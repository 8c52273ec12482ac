-- The first event from one on.
use Rattle.csp_base.proofs.Prelude.{◌≡◌, ℕ, suc, ◌+◌, ◌-◌, ◌*◌, ◌/◌, ◌%◌, ◌^◌, ◌<◌, ◌≤◌, Bool, true, false, ◌&&◌, eqb, leb, List, [], ◌∷◌, ◌++◌, length, get_or, Some, refl, sym, ap, ◌⊎◌, inl, inr, le_refl, ◌∙◌, subst, add-one, arith, append_assoc, find, w64, count_trailing_zeros, ◌==◌, bit_and, has, has_bit, word_at, word_events, AreBlocksFrom, events_of, first_word, rest_after}
use Rattle.csp_base.proofs.Standard.{cases_eq, cases_lt, eq-eqb, le-leb, or_left, false≢true, and_right, bit_at-trailing_zeros, ones_shl, bit_at_mask_inside, bit_at_mask_below, and_le_l, shr_lt}
use Rattle.csp_base.proofs.Rising.{RisesFrom, has_below, find_from_member, find_from_none}
use Rattle.csp_base.proofs.BlockMembers.{AreBlocksFrom-weaken, word_at_below, word_at_first, has-events_of_at, has-events_of, RisesFrom-events_of, has_bit-zero}
use Rattle.csp_base.proofs.MergeSteps.{first_word-word_at, has_bit-and, word_at-lt, AreBlocksFrom-rest_after, word_at-rest_after}

-- ---- halves of words, and lists of blocks

pub half_lt : (n w : ℕ) → w < 2 ^ suc n → w / 2 < 2 ^ n
half_lt n w l = shr_lt n 1 (subst (λ k. w < 2 ^ k) (sym (add-one n)) l)

pub events_of-append : (ps qs : List (ℕ × ℕ)) → events_of (ps ++ qs) ≡ events_of ps ++ events_of qs
events_of-append [] qs = refl
events_of-append (p ∷ ps) qs = ap (λ xs. word_events 64 (64 * p.0) p.1 ++ xs) (events_of-append ps qs) ∙ sym (append_assoc (word_events 64 (64 * p.0) p.1) (events_of ps) (events_of qs))

-- ---- the first from a number on

-- the lowest bit of a word tells the first event from e on, where no event between is in an earlier block
pub find_in_word : (ps : List (ℕ × ℕ)) (b k e : ℕ) → AreBlocksFrom 0 ps → k < 64 → e ≤ 64 * b + k → has_bit (word_at ps b) k ≡ true
    → ((j : ℕ) → j < k → e ≤ 64 * b + j → has_bit (word_at ps b) j ≡ false)
    → ((z : ℕ) → z < 64 * b → e ≤ z → has (events_of ps) z ≡ false)
    → Some (b * 64 + k) ≡ find (leb e) (events_of ps)
find_in_word ps b k e r l from here before earlier =
    ap Some (let f : b * 64 + k ≡ 64 * b + k = omega arith in f)
    ∙ sym (find_from_member 0 (events_of ps) e (64 * b + k) (RisesFrom-events_of 0 ps r) (has-events_of 0 ps b k r l ∙ here) from
    (λ z under above. elim (cases_lt z (64 * b)) [
      | inl h ↦ earlier z h above
      | inr h ↦
          let place : z ≡ 64 * b + (z - 64 * b) = omega arith in
          ap (has (events_of ps)) place ∙ has-events_of 0 ps b (z - 64 * b) r (omega arith) ∙ before (z - 64 * b) (omega arith) (omega arith)
    ]))

-- a word that is not 0: its lowest bit
pub lowest_bit : (w : ℕ) → (w ≡ 0 → ⊥) → w < 2 ^ 64 → (count_trailing_zeros 64 w < 64) × (has_bit w (count_trailing_zeros 64 w) ≡ true) × ((j : ℕ) → j < count_trailing_zeros 64 w → has_bit w j ≡ false)
lowest_bit w ne l =
    let lowest = bit_at-trailing_zeros w64 w (omega arith) l in
    (lowest.0, eq-eqb _ 1 lowest.1, λ j h. ap (λ n. n == 1) (lowest.2 j h))

-- the first event of all, in the first block
pub find_first : (p : ℕ × ℕ) (ps : List (ℕ × ℕ)) → AreBlocksFrom 0 (p ∷ ps) → Some (p.0 * 64 + count_trailing_zeros 64 p.1) ≡ find (leb 0) (events_of (p ∷ ps))
find_first p ps r =
    let positive : 0 < p.1 = r.2 in
    let low = lowest_bit p.1 (omega arith) r.3 in
    let word = word_at_first p ps r.4 in
    find_in_word (p ∷ ps) p.0 (count_trailing_zeros 64 p.1) 0 r low.0 (omega arith)
    (ap (λ w. has_bit w (count_trailing_zeros 64 p.1)) word ∙ low.1)
    (λ j h g. ap (λ w. has_bit w j) word ∙ low.2 j h)
    (λ z h g. has_below (64 * p.0) (events_of (p ∷ ps)) z (RisesFrom-events_of p.0 (p ∷ ps) (le_refl p.0, r.1, r.2, r.3, r.4)) h)

pub first_fits : (p : ℕ × ℕ) (ps : List (ℕ × ℕ)) → AreBlocksFrom 0 (p ∷ ps) → p.0 * 64 + count_trailing_zeros 64 p.1 < 2 ^ 32
first_fits p ps r =
    let positive : 0 < p.1 = r.2 in
    let number : p.0 < 2 ^ 26 = r.1 in
    let low = (lowest_bit p.1 (omega arith) r.3).0 in
    omega arith

-- ---- from a number within a block on

-- the bits of a word from bit k on
abbrev pub bits_from : ℕ → ℕ → ℕ
bits_from w k = bit_and w (18446744073709551615 * 2 ^ k % 18446744073709551616)

mask_above : (k j : ℕ) → k ≤ j → j < 64 → has_bit (18446744073709551615 * 2 ^ k % 18446744073709551616) j ≡ true
mask_above k j l m = ap (λ w. has_bit w j) (ones_shl 64 k (omega arith)) ∙ eq-eqb _ 1 (bit_at_mask_inside k 64 j l m)

mask_below : (k j : ℕ) → j < k → k ≤ 64 → has_bit (18446744073709551615 * 2 ^ k % 18446744073709551616) j ≡ false
mask_below k j l m = ap (λ w. has_bit w j) (ones_shl 64 k m) ∙ ap (λ n. n == 1) (bit_at_mask_below k 64 j l)

pub has_bits_from_above : (w k j : ℕ) → k ≤ j → j < 64 → has_bit (bits_from w k) j ≡ has_bit w j
has_bits_from_above w k j l m = has_bit-and w _ j ∙ ap (λ b. has_bit w j && b) (mask_above k j l m) ∙ and_true (has_bit w j)
  where
    and_true : (b : Bool) → (b && true) ≡ b
    and_true true = refl
    and_true false = refl

pub has_bits_from_below : (w k j : ℕ) → j < k → k ≤ 64 → has_bit (bits_from w k) j ≡ false
has_bits_from_below w k j l m = has_bit-and w _ j ∙ and_right (has_bit w j) _ (mask_below k j l m)

-- the event e is e / 64 * 64 + e % 64, and its block has an event from it on
pub find_in_block : (ps : List (ℕ × ℕ)) (e w : ℕ) → AreBlocksFrom 0 ps → w ≡ word_at ps (e / 64) → (bits_from w (e % 64) ≡ 0 → ⊥)
    → Some (e / 64 * 64 + count_trailing_zeros 64 (bits_from w (e % 64))) ≡ find (leb e) (events_of ps)
find_in_block ps e w r is ne =
    let bits : ℕ = bits_from w (e % 64) in
    let fits : w < 2 ^ 64 = subst (λ n. n < 2 ^ 64) (sym is) (word_at-lt 0 ps (e / 64) r) in
    let low = lowest_bit bits ne (let h = and_le_l w (18446744073709551615 * 2 ^ (e % 64) % 18446744073709551616) in omega arith) in
    let k : ℕ = count_trailing_zeros 64 bits in
    let place : e % 64 ≤ k = above_mask w (e % 64) k (omega arith) low.1 in
    find_in_word ps (e / 64) k e r low.0 (omega arith)
    (ap (λ n. has_bit n k) (sym is) ∙ sym (has_bits_from_above w (e % 64) k place low.0) ∙ low.1)
    (λ j h g. ap (λ n. has_bit n j) (sym is) ∙ sym (has_bits_from_above w (e % 64) j (omega arith) (omega arith)) ∙ low.2 j h)
    (λ z h g. absurd (omega arith))
  where
    above_mask : (w m k : ℕ) → m ≤ 64 → has_bit (bits_from w m) k ≡ true → m ≤ k
    above_mask w m k l is = elim (cases_lt k m) [ inl h ↦ absurd (false≢true (sym (has_bits_from_below w m k h l) ∙ is)) | inr h ↦ h ]

-- two lists with the same members from e on, of which the second has none below
find_same : (xs ys : List ℕ) (e : ℕ) → RisesFrom 0 xs → RisesFrom 0 ys → ((z : ℕ) → e ≤ z → has xs z ≡ has ys z) → ((z : ℕ) → z < e → has ys z ≡ false) → find (leb 0) ys ≡ find (leb e) xs
find_same xs [] e r s same none = sym (find_from_none xs e same)
find_same xs (y ∷ ys) e r s same none =
    let first : has (y ∷ ys) y ≡ true = or_left (eqb y y) (has ys y) (eq-eqb y y refl) in
    let above : e ≤ y = elim (cases_lt y e) [ inl h ↦ absurd (false≢true (sym (none y h) ∙ first)) | inr h ↦ h ] in
    rw (le-leb 0 y (omega arith))
    (sym (find_from_member 0 xs e y r (same y above ∙ first) above (λ z h g. same z g ∙ has_below y (y ∷ ys) z (le_refl y, s.1) h)))

-- where the event's block has none from it on, the first is that of the blocks after it
pub find_past_block : (ps qs : List (ℕ × ℕ)) (e : ℕ) → AreBlocksFrom 0 ps → AreBlocksFrom (e / 64) qs → ((b : ℕ) → e / 64 ≤ b → word_at qs b ≡ word_at ps b)
    → bits_from (first_word qs (e / 64)) (e % 64) ≡ 0 → find (leb 0) (events_of (rest_after qs (e / 64))) ≡ find (leb e) (events_of ps)
find_past_block ps qs e r s same z =
    let b : ℕ = e / 64 in
    let rest : AreBlocksFrom (b + 1) (rest_after qs b) = AreBlocksFrom-rest_after b qs s in
    find_same (events_of ps) (events_of (rest_after qs b)) e (RisesFrom-events_of 0 ps r)
    (RisesFrom-events_of 0 (rest_after qs b) (AreBlocksFrom-weaken 0 (b + 1) (rest_after qs b) (omega arith) rest))
    (λ x l. has-events_of_at 0 ps x r ∙ later x l (cases_eq b (x / 64)) ∙ sym (has-events_of_at (b + 1) (rest_after qs b) x rest))
    (λ x l. has_below (64 * (b + 1)) (events_of (rest_after qs b)) x (RisesFrom-events_of (b + 1) (rest_after qs b) rest) (omega arith))
  where
    later : (x : ℕ) → e ≤ x → (e / 64 ≡ x / 64) ⊎ (e / 64 ≡ x / 64 → ⊥) → has_bit (word_at ps (x / 64)) (x % 64) ≡ has_bit (word_at (rest_after qs (e / 64)) (x / 64)) (x % 64)
    later x l (inl h) =
        let above : e % 64 ≤ x % 64 = omega arith in
        let word : word_at ps (x / 64) ≡ first_word qs (e / 64) = ap (word_at ps) (sym h) ∙ sym (same (e / 64) (le_refl (e / 64))) ∙ sym (first_word-word_at (e / 64) qs s) in
        ap (λ n. has_bit n (x % 64)) word ∙ sym (has_bits_from_above (first_word qs (e / 64)) (e % 64) (x % 64) above (omega arith))
        ∙ ap (λ n. has_bit n (x % 64)) z ∙ has_bit-zero (x % 64)
        ∙ sym (ap (λ n. has_bit n (x % 64)) (ap (word_at (rest_after qs (e / 64))) (sym h)
        ∙ word_at_below (e / 64 + 1) (rest_after qs (e / 64)) (e / 64) (AreBlocksFrom-rest_after (e / 64) qs s) (omega arith)) ∙ has_bit-zero (x % 64))
    later x l (inr h) = ap (λ n. has_bit n (x % 64)) (sym (same (x / 64) (omega arith)) ∙ sym (word_at-rest_after (e / 64) qs (x / 64) h))

-- the same for a list that is not empty, by its first block
pub find_first_at : (ps : List (ℕ × ℕ)) (d : ℕ × ℕ) → 0 < length ps → AreBlocksFrom 0 ps → Some ((get_or ps 0 d).0 * 64 + count_trailing_zeros 64 (get_or ps 0 d).1) ≡ find (leb 0) (events_of ps)
find_first_at [] d l r = absurd (omega arith)
find_first_at (p ∷ ps) d l r = find_first p ps r

pub first_fits_at : (ps : List (ℕ × ℕ)) (d : ℕ × ℕ) → 0 < length ps → AreBlocksFrom 0 ps → (get_or ps 0 d).0 * 64 + count_trailing_zeros 64 (get_or ps 0 d).1 < 2 ^ 32
first_fits_at [] d l r = absurd (omega arith)
first_fits_at (p ∷ ps) d l r = first_fits p ps r
