-- One more event in a list of blocks.
use Rattle.csp_base.proofs.Prelude.{◌≡◌, ℕ, zero, suc, ◌+◌, ◌*◌, ◌/◌, ◌%◌, ◌^◌, ◌<◌, ◌≤◌, cond, ◌||◌, eqb, List, [], ◌∷◌, ◌++◌, length, take, drop, set, refl, sym, ap, ◌⊎◌, inl, inr, ◌∙◌, subst, arith, or_zero_l, w64, ◌==◌, bit_or, has, has_bit, word_at, AreBlocksFrom, events_of, first_word, end_from}
use Rattle.csp_base.proofs.Standard.{cases_eq, eq-eqb, ne_eqb, or_left, bit_at_set_same, bit_at_set_other, or_lt, le_or_l, pow_pos, pow_mono, take-append-drop, set_split, drop-cons}
use Rattle.csp_base.proofs.BlockMembers.{word_at-append, word_at_first, word_at_later, has-events_of_at}
use Rattle.csp_base.proofs.MergeSteps.{first_word-word_at}
use Rattle.csp_base.proofs.Places.{AreBlocksFrom-append, AreBlocksFrom-take, word_at_past}

-- the new blocks, with the bits added at a number
pub record Includes (old new : List (ℕ × ℕ)) (number bit : ℕ) : Type 0 where
  pub blocks : AreBlocksFrom 0 new
  pub at_number : word_at new number ≡ bit_or (word_at old number) bit
  pub others : (b : ℕ) → (number ≡ b → ⊥) → word_at new b ≡ word_at old b

after_front : (front rest : List (ℕ × ℕ)) (n : ℕ) → AreBlocksFrom 0 front → end_from 0 front ≤ n → word_at (front ++ rest) n ≡ word_at rest n
after_front front rest n r l = word_at-append front rest n ∙ ap (λ w. w + word_at rest n) (word_at_past 0 front n r l) ∙ (omega arith)

changed_after : (front rest rest' : List (ℕ × ℕ)) (b : ℕ) → word_at rest b ≡ word_at rest' b → word_at (front ++ rest) b ≡ word_at (front ++ rest') b
changed_after front rest rest' b e = word_at-append front rest b ∙ ap (λ w. word_at front b + w) e ∙ sym (word_at-append front rest' b)

-- in place of the first block of `qs`, after `front`
includes_set : (front qs : List (ℕ × ℕ)) (number bit : ℕ) → AreBlocksFrom 0 front → end_from 0 front ≤ number → AreBlocksFrom number qs → (first_word qs number ≡ 0 → ⊥) → bit < 2 ^ 64
    → Includes (front ++ qs) (front ++ (number, bit_or (first_word qs number) bit) ∷ drop 1 qs) number bit
includes_set front [] number bit r e s ne l = absurd (ne refl)
includes_set front (q ∷ qs) number bit r e s ne l =
    elim (cases_eq q.0 number) [
      | inr h ↦ absurd (ne (ap (λ b. cond b q.1 0) (ne_eqb q.0 number h)))
      | inl h ↦
          let word : first_word (q ∷ qs) number ≡ q.1 = ap (λ b. cond b q.1 0) (eq-eqb q.0 number h) in
          let later : AreBlocksFrom (number + 1) qs = subst (λ n. AreBlocksFrom (n + 1) qs) h s.4 in
          let new : ℕ = bit_or (first_word (q ∷ qs) number) bit in
          let fits : new < 2 ^ 64 = or_lt 64 (first_word (q ∷ qs) number) bit (subst (λ n. n < 2 ^ 64) (sym word) s.3) l in
          let small : number < 2 ^ 26 = (let g : q.0 < 2 ^ 26 = s.1 in omega arith) in
          let positive : 0 < new = (let g : 0 < q.1 = s.2 in let k = le_or_l (first_word (q ∷ qs) number) bit in omega arith) in
          record {
            blocks = AreBlocksFrom-append 0 front ((number, new) ∷ qs) r (e, small, positive, fits, later);
            at_number =
                after_front front ((number, new) ∷ qs) number r e ∙ word_at_first (number, new) qs later
                ∙ ap (λ w. bit_or w bit) (first_word-word_at number (q ∷ qs) s ∙ sym (after_front front (q ∷ qs) number r e));
            others = λ b n. changed_after front ((number, new) ∷ qs) (q ∷ qs) b (word_at_later (number, new) qs b n ∙ sym (word_at_later q qs b (λ g. n (sym h ∙ g))));
          }
    ]

-- where the number has no block, all blocks come after it
ahead : (qs : List (ℕ × ℕ)) (number : ℕ) → AreBlocksFrom number qs → first_word qs number ≡ 0 → AreBlocksFrom (number + 1) qs
ahead [] number s z = tt
ahead (q ∷ qs) number s z =
    let from : number ≤ q.0 = s.0 in
    let positive : 0 < q.1 = s.2 in
    elim (cases_eq q.0 number) [
      | inl h ↦ absurd (let word : first_word (q ∷ qs) number ≡ q.1 = ap (λ b. cond b q.1 0) (eq-eqb q.0 number h) in omega arith)
      | inr h ↦ ((omega arith), s.1, s.2, s.3, s.4)
    ]

-- as a block of its own
includes_insert : (front qs : List (ℕ × ℕ)) (number bit : ℕ) → AreBlocksFrom 0 front → end_from 0 front ≤ number → number < 2 ^ 26 → AreBlocksFrom number qs → first_word qs number ≡ 0 → 0 < bit → bit < 2 ^ 64
    → Includes (front ++ qs) (front ++ (number, bit) ∷ qs) number bit
includes_insert front qs number bit r e small s z p l =
    let later : AreBlocksFrom (number + 1) qs = ahead qs number s z in
    record {
      blocks = AreBlocksFrom-append 0 front ((number, bit) ∷ qs) r (e, small, p, l, later);
      at_number =
          after_front front ((number, bit) ∷ qs) number r e ∙ word_at_first (number, bit) qs later ∙ sym (or_zero_l bit)
          ∙ ap (λ w. bit_or w bit) (sym z ∙ first_word-word_at number qs s ∙ sym (after_front front qs number r e));
      others = λ b n. changed_after front ((number, bit) ∷ qs) qs b (word_at_later (number, bit) qs b n);
    }

-- ---- at a place

is_within : (ps : List (ℕ × ℕ)) (i n : ℕ) → (first_word (drop i ps) n ≡ 0 → ⊥) → i < length ps
is_within [] zero n ne = absurd (ne refl)
is_within [] (suc i) n ne = absurd (ne refl)
is_within (p ∷ ps) zero n ne = omega arith
is_within (p ∷ ps) (suc i) n ne = let h = is_within ps i n ne in omega arith

pub is_within_lem : (ps : List (ℕ × ℕ)) (i n w : ℕ) → w ≡ first_word (drop i ps) n → (w ≡ 0 → ⊥) → i < length ps
is_within_lem ps i n w is ne = is_within ps i n (λ z. ne (is ∙ z))

pub includes_at_set : (ps : List (ℕ × ℕ)) (i number bit : ℕ) → AreBlocksFrom 0 ps → end_from 0 (take i ps) ≤ number → AreBlocksFrom number (drop i ps) → (first_word (drop i ps) number ≡ 0 → ⊥) → bit < 2 ^ 64
    → Includes ps (set ps i (number, bit_or (first_word (drop i ps) number) bit)) number bit
includes_at_set ps i number bit r e s ne l =
    let within : i < length ps = is_within ps i number ne in
    let new : ℕ × ℕ = (number, bit_or (first_word (drop i ps) number) bit) in
    let rest : drop 1 (drop i ps) ≡ drop (suc i) ps = ap (drop 1) (drop-cons ps i new within) in
    subst (λ qs. Includes ps qs number bit) (ap (λ qs. take i ps ++ new ∷ qs) rest ∙ sym (set_split ps i new within))
    (subst (λ qs. Includes qs (take i ps ++ new ∷ drop 1 (drop i ps)) number bit) (take-append-drop i ps)
    (includes_set (take i ps) (drop i ps) number bit (AreBlocksFrom-take 0 ps i r) e s ne l))

pub includes_at_insert : (ps : List (ℕ × ℕ)) (i number bit : ℕ) → AreBlocksFrom 0 ps → end_from 0 (take i ps) ≤ number → number < 2 ^ 26 → AreBlocksFrom number (drop i ps) → first_word (drop i ps) number ≡ 0 → 0 < bit → bit < 2 ^ 64
    → Includes ps (take i ps ++ (number, bit) ∷ drop i ps) number bit
includes_at_insert ps i number bit r e small s z p l =
    subst (λ qs. Includes qs (take i ps ++ (number, bit) ∷ drop i ps) number bit) (take-append-drop i ps)
    (includes_insert (take i ps) (drop i ps) number bit (AreBlocksFrom-take 0 ps i r) e small s z p l)

-- ---- one bit

abbrev pub bit_of : ℕ → ℕ
bit_of k = 1 * 2 ^ k % 18446744073709551616

pub bit_of-pos : (k : ℕ) → k < 64 → (0 < bit_of k) × (bit_of k < 2 ^ 64)
bit_of-pos k l =
    let whole : 2 ^ k < 2 ^ 64 = pow_lt k l in
    rw (let e : 1 * 2 ^ k % 18446744073709551616 ≡ 2 ^ k = omega arith in e) (pow_pos k, whole)
  where
    pow_lt : (k : ℕ) → k < 64 → 2 ^ k < 2 ^ 64
    pow_lt k l = let below : k ≤ 63 = omega arith in let h : 2 ^ k ≤ 2 ^ 63 = pow_mono below in omega arith

pub has-included : (old new : List (ℕ × ℕ)) (e : ℕ) → AreBlocksFrom 0 old → Includes old new (e / 64) (bit_of (e % 64)) → (x : ℕ) → has (events_of new) x ≡ (eqb e x || has (events_of old) x)
has-included old new e r i x =
    has-events_of_at 0 new x i.blocks ∙ cases (cases_eq (e / 64) (x / 64)) (cases_eq (x % 64) (e % 64))
    ∙ ap (λ b. eqb e x || b) (sym (has-events_of_at 0 old x r))
  where
    cases : (e / 64 ≡ x / 64) ⊎ (e / 64 ≡ x / 64 → ⊥) → (x % 64 ≡ e % 64) ⊎ (x % 64 ≡ e % 64 → ⊥) → has_bit (word_at new (x / 64)) (x % 64) ≡ (eqb e x || has_bit (word_at old (x / 64)) (x % 64))
    cases (inr n) c = rw (ne_eqb e x (λ h. n (ap (λ z. z / 64) h))) (ap (λ w. has_bit w (x % 64)) (i.others (x / 64) n))
    cases (inl h) (inl g) =
        ap (λ w. has_bit w (x % 64)) (ap (word_at new) (sym h) ∙ i.at_number) ∙ ap (has_bit (bit_or (word_at old (e / 64)) (bit_of (e % 64)))) g
        ∙ eq-eqb _ 1 (bit_at_set_same w64 (word_at old (e / 64)) (e % 64) (omega arith))
        ∙ sym (or_left (eqb e x) _ (eq-eqb e x (omega arith)))
    cases (inl h) (inr n) =
        rw (ne_eqb e x (λ z. n (ap (λ y. y % 64) (sym z))))
        (ap (λ w. has_bit w (x % 64)) (ap (word_at new) (sym h) ∙ i.at_number)
        ∙ ap (λ b. b == 1) (bit_at_set_other w64 (word_at old (e / 64)) (e % 64) (omega arith) (x % 64) n)
        ∙ ap (λ b. has_bit (word_at old b) (x % 64)) h)

-- ---- one event

pub included_set : (ps : List (ℕ × ℕ)) (i e w : ℕ) → AreBlocksFrom 0 ps → end_from 0 (take i ps) ≤ e / 64 → AreBlocksFrom (e / 64) (drop i ps) → w ≡ first_word (drop i ps) (e / 64) → (w ≡ 0 → ⊥)
    → Includes ps (set ps i (e / 64, bit_or w (bit_of (e % 64)))) (e / 64) (bit_of (e % 64))
included_set ps i e w r before after is ne =
    rw is (includes_at_set ps i (e / 64) (bit_of (e % 64)) r before after (λ z. ne (is ∙ z)) (bit_of-pos (e % 64) (omega arith)).1)

pub included_insert : (ps : List (ℕ × ℕ)) (i e w : ℕ) → AreBlocksFrom 0 ps → e < 2 ^ 32 → end_from 0 (take i ps) ≤ e / 64 → AreBlocksFrom (e / 64) (drop i ps) → w ≡ first_word (drop i ps) (e / 64) → w ≡ 0
    → Includes ps (take i ps ++ (e / 64, bit_of (e % 64)) ∷ drop i ps) (e / 64) (bit_of (e % 64))
included_insert ps i e w r small before after is z =
    let bit = bit_of-pos (e % 64) (omega arith) in
    includes_at_insert ps i (e / 64) (bit_of (e % 64)) r before (omega arith) after (sym is ∙ z) bit.0 bit.1
