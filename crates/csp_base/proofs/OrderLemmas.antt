-- The order of two sets as lists, by the first event in which they differ.
use Rattle.csp_base.proofs.Prelude.{◌≡◌, ℕ, zero, suc, ◌+◌, ◌-◌, ◌*◌, ◌/◌, ◌%◌, ◌^◌, ◌<◌, ◌≤◌, Bool, true, false, not, cond, ◌||◌, eqb, ltb, List, [], ◌∷◌, ◌++◌, length, take, drop, get_or, min, refl, sym, ap, inl, inr, le_refl, ◌∙◌, subst, arith, w64, count_trailing_zeros, MatchBool, slice_cmp, nat_cmp, ordering_then, Less, Equal, Greater, ◌==◌, bit_xor, has, has_bit, word_at, AreBlocksFrom, events_of, end_from, word_order_at, bit_at}
use Rattle.csp_base.proofs.Standard.{cases_eq, cases_lt, cases_order, eq-eqb, ne_eqb, eqb-true, eqb-false, lt-ltb, le-ltb, false≢true, true≢false, not-true, not-false, ltb-true, ltb-false, bit_at-zero, bit_at_xor, bit_at-lt, bit_at_above, bit_at-trailing_zeros, same_from_bits, take-append-drop, xor_lt, pow-add, div-div-eq-div-mul, div-le_self}
use Rattle.csp_base.proofs.Rising.{RisesFrom, has_below}
use Rattle.csp_base.proofs.BlockMembers.{AreBlocksFrom-weaken, word_at_first, word_at_later, has-events_of_at, has-events_of, RisesFrom-events_of, has_bit-zero}
use Rattle.csp_base.proofs.MergeSteps.{bit_of_word}
use Rattle.csp_base.proofs.Places.{AreBlocksFrom-drop}
use Rattle.csp_base.proofs.Finds.{events_of-append, lowest_bit}
use Rattle.csp_base.proofs.Listed.{has_first, has_rest}

-- ---- two words

digits_differ : (a b : ℕ) → a < 2 → b < 2 → (a + b) % 2 ≡ 1 → eqb a 1 ≡ not (eqb b 1)
digits_differ zero zero l m e = absurd (omega arith)
digits_differ zero (suc zero) l m e = refl
digits_differ (suc zero) zero l m e = refl
digits_differ (suc zero) (suc zero) l m e = absurd (omega arith)
digits_differ (suc (suc a)) b l m e = absurd (omega arith)
digits_differ a (suc (suc b)) l m e = absurd (omega arith)

-- the lowest bit in which two words differ
pub differing_bit : (v w : ℕ) → v < 2 ^ 64 → w < 2 ^ 64 → (v ≡ w → ⊥)
    → (count_trailing_zeros 64 (bit_xor v w) < 64) × (has_bit v (count_trailing_zeros 64 (bit_xor v w)) ≡ not (has_bit w (count_trailing_zeros 64 (bit_xor v w))))
    × ((j : ℕ) → j < count_trailing_zeros 64 (bit_xor v w) → has_bit v j ≡ has_bit w j)
differing_bit v w l m ne =
    let differ : bit_xor v w ≡ 0 → ⊥ = λ z. ne (same_from_bits v w (λ i. same (i) (sym (bit_at_xor v w i) ∙ ap (λ n. bit_at n i) z ∙ bit_at-zero i))) in
    let low = bit_at-trailing_zeros w64 (bit_xor v w) (omega arith) (xor_lt 64 v w l m) in (
      low.0,
      digits_differ _ _ (bit_at-lt v _) (bit_at-lt w _) (sym (bit_at_xor v w _) ∙ low.1),
      λ j h. ap (λ n. n == 1) (same j (sym (bit_at_xor v w j) ∙ low.2 j h)),
    )
  where
    same : (i : ℕ) → (bit_at v i + bit_at w i) % 2 ≡ 0 → bit_at v i ≡ bit_at w i
    same i e = let h = bit_at-lt v i in let g = bit_at-lt w i in omega arith

-- ---- two lists

nat_cmp_lt : (a b : ℕ) → a < b → nat_cmp a b ≡ Less
nat_cmp_lt a b l = rw (lt-ltb a b l)

nat_cmp_gt : (a b : ℕ) → b < a → nat_cmp a b ≡ Greater
nat_cmp_gt a b l = rw (le-ltb a b (omega arith), ne_eqb a b (omega arith))

nat_cmp_eq : (a b : ℕ) → a ≡ b → nat_cmp a b ≡ Equal
nat_cmp_eq a b e = rw (le-ltb a b (omega arith), eq-eqb a b e)

-- whether the list has a number above x, by the answer r
abbrev pub GoesOn : Bool → List ℕ → ℕ → Type 0
GoesOn r ys x = MatchBool r ((z : ℕ) × (x < z) × (has ys z ≡ true)) ((z : ℕ) → x < z → has ys z ≡ false)

at_least : (c : ℕ) (zs : List ℕ) (z : ℕ) → RisesFrom (c + 1) zs → has (c ∷ zs) z ≡ true → c ≤ z
at_least c zs z r h = elim (cases_lt z c) [ inl l ↦ absurd (false≢true (sym (has_below c (c ∷ zs) z (le_refl c, r) l) ∙ h)) | inr l ↦ l ]

-- agreement below x goes on in the rests of lists that begin alike
tails_agree : (a : ℕ) (xs ys : List ℕ) (z : ℕ) → RisesFrom (a + 1) xs → RisesFrom (a + 1) ys → has (a ∷ xs) z ≡ has (a ∷ ys) z → has xs z ≡ has ys z
tails_agree a xs ys z r s same =
    elim (cases_eq a z) [
      | inl h ↦ has_below (a + 1) xs z r (omega arith) ∙ sym (has_below (a + 1) ys z s (omega arith))
      | inr ne ↦ sym (has_rest a xs z ne) ∙ same ∙ has_rest a ys z ne
    ]

goes_on_tail : (r : Bool) (b : ℕ) (ys : List ℕ) (x : ℕ) → b < x → GoesOn r (b ∷ ys) x → GoesOn r ys x
goes_on_tail true b ys x l on = (on.0, on.1, sym (has_rest b ys on.0 (let g : x < on.0 = on.1 in omega arith)) ∙ on.2)
goes_on_tail false b ys x l on = λ z g. sym (has_rest b ys z (omega arith)) ∙ on z g

goes_on_first : (r : Bool) (b : ℕ) (ys : List ℕ) (x : ℕ) → x < b → GoesOn r (b ∷ ys) x → r ≡ true
goes_on_first true b ys x l on = refl
goes_on_first false b ys x l on = absurd (false≢true (sym (on b l) ∙ has_first b ys))

first_less : (r : Bool) (a b : ℕ) (xs ys : List ℕ) → a < b → r ≡ true → (slice_cmp nat_cmp (a ∷ xs) (b ∷ ys) ≡ cond r Less Greater) × (slice_cmp nat_cmp (b ∷ ys) (a ∷ xs) ≡ cond r Greater Less)
first_less r a b xs ys l e = (
  ap (λ o. ordering_then o (slice_cmp nat_cmp xs ys)) (nat_cmp_lt a b l) ∙ ap (λ q. cond q Less Greater) (sym e),
  ap (λ o. ordering_then o (slice_cmp nat_cmp ys xs)) (nat_cmp_gt b a l) ∙ ap (λ q. cond q Greater Less) (sym e),
)

-- two rising lists that agree below x, which the first has and the second has not
pub order_at_member : (r : Bool) (x : ℕ) (m n : ℕ) (xs ys : List ℕ) → RisesFrom m xs → RisesFrom n ys → has xs x ≡ true → has ys x ≡ false
    → ((z : ℕ) → z < x → has xs z ≡ has ys z) → GoesOn r ys x
    → (slice_cmp nat_cmp xs ys ≡ cond r Less Greater) × (slice_cmp nat_cmp ys xs ≡ cond r Greater Less)
order_at_member r x m n [] ys rx ry h g same on = absurd (false≢true h)
order_at_member true x m n (a ∷ xs) [] rx ry h g same on = absurd (false≢true on.2)
order_at_member false x m n (a ∷ xs) [] rx ry h g same on = (refl, refl)
order_at_member r x m n (a ∷ xs) (b ∷ ys) rx ry h g same on =
    let low : a ≤ x = at_least a xs x rx.1 h in
    elim (cases_order a b) [
      | inl e ↦
          let ry' : RisesFrom (a + 1) ys = subst (λ c. RisesFrom (c + 1) ys) (sym e) ry.1 in
          let same' : (z : ℕ) → z < x → has (a ∷ xs) z ≡ has (a ∷ ys) z = subst (λ c. (z : ℕ) → z < x → has (a ∷ xs) z ≡ has (c ∷ ys) z) (sym e) same in
          let ne : a ≡ x → ⊥ = λ z. true≢false (sym (subst (λ c. has (b ∷ ys) c ≡ true) (sym e ∙ z) (has_first b ys)) ∙ g) in
          let rest = order_at_member r x (a + 1) (a + 1) xs ys rx.1 ry' (sym (has_rest a xs x ne) ∙ h) (sym (has_rest b ys x (λ z. ne (e ∙ z))) ∙ g)
          (λ z l. tails_agree a xs ys z rx.1 ry' (same' z l)) (goes_on_tail r b ys x (omega arith) on) in
          (ap (λ o. ordering_then o (slice_cmp nat_cmp xs ys)) (nat_cmp_eq a b e) ∙ rest.0, ap (λ o. ordering_then o (slice_cmp nat_cmp ys xs)) (nat_cmp_eq b a (sym e)) ∙ rest.1)
      | inr o ↦
          elim o [
            | inl l ↦
                let here : x ≡ a = elim (cases_lt a x) [
                  | inl k ↦ absurd (true≢false (sym (has_first a xs) ∙ same a k ∙ has_below b (b ∷ ys) a (le_refl b, ry.1) l))
                  | inr k ↦ omega arith
                ] in
                first_less r a b xs ys l (goes_on_first r b ys x (omega arith) on)
            | inr l ↦
                elim (cases_lt b x) [
                  | inl k ↦ absurd (false≢true (sym (has_below a (a ∷ xs) b (le_refl a, rx.1) l) ∙ same b k ∙ has_first b ys))
                  | inr k ↦ absurd (omega arith)
                ]
          ]
    ]

-- ---- two words of one block, and the blocks after them

has_bit-shr : (w k i : ℕ) → has_bit w (k + i) ≡ has_bit (w / 2 ^ k) i
has_bit-shr w k i = ap (λ n. n % 2 == 1) (ap (λ m. w / m) (pow-add 2 k i) ∙ sym (div-div-eq-div-mul w (2 ^ k) (2 ^ i)))

-- whether blocks follow
abbrev pub Follows : Bool → List (ℕ × ℕ) → Type 0
Follows more qs = MatchBool more (0 < length qs) (length qs ≡ 0)

-- an event in a later block
later_event : (n w : ℕ) (qs : List (ℕ × ℕ)) → AreBlocksFrom 0 ((n, w) ∷ qs) → 0 < length qs → (z : ℕ) × (64 * n + 64 ≤ z) × (has (events_of ((n, w) ∷ qs)) z ≡ true)
later_event n w [] r l = absurd (omega arith)
later_event n w (q ∷ qs) r l =
    let s : AreBlocksFrom (n + 1) (q ∷ qs) = r.4 in
    let above : n + 1 ≤ q.0 = s.0 in
    let positive : 0 < q.1 = s.2 in
    let bit = bit_of_word q.1 (omega arith) s.3 in (
      64 * q.0 + bit.0,
      (omega arith),
      has-events_of 0 ((n, w) ∷ q ∷ qs) q.0 bit.0 r bit.1
          ∙ ap (λ v. has_bit v bit.0) (word_at_later (n, w) (q ∷ qs) q.0 (omega arith) ∙ word_at_first q qs s.4) ∙ bit.2,
    )

-- an event in the same block, above bit k
same_block_event : (n w k : ℕ) (qs : List (ℕ × ℕ)) → AreBlocksFrom 0 ((n, w) ∷ qs) → has_bit w k ≡ false → (w / 2 ^ k ≡ 0 → ⊥) → (z : ℕ) × (64 * n + k < z) × (has (events_of ((n, w) ∷ qs)) z ≡ true)
same_block_event n w k qs r clear ne =
    let bit = bit_of_word (w / 2 ^ k) ne (let h : w < 2 ^ 64 = r.3 in let g = div-le_self w (2 ^ k) in omega arith) in
    let set : has_bit w (k + bit.0) ≡ true = has_bit-shr w k bit.0 ∙ bit.2 in
    let inside : k + bit.0 < 64 = elim (cases_lt (k + bit.0) 64) [
      | inl l ↦ l
      | inr l ↦ absurd (false≢true (sym (ap (λ d. d == 1) (bit_at_above w 64 (k + bit.0) r.3 l)) ∙ set))
    ] in
    let later : k < k + bit.0 = elim (cases_lt 0 bit.0) [
      | inl l ↦ omega arith
      | inr l ↦ absurd (false≢true (sym clear ∙ ap (has_bit w) (let e : k ≡ k + bit.0 = omega arith in e) ∙ set))
    ] in (
      64 * n + (k + bit.0),
      (omega arith),
      has-events_of 0 ((n, w) ∷ qs) n (k + bit.0) r inside ∙ ap (λ v. has_bit v (k + bit.0)) (word_at_first (n, w) qs r.4) ∙ set,
    )

-- no event above bit k, where the word has none and no block follows
no_event : (n w k : ℕ) → AreBlocksFrom 0 ((n, w) ∷ []) → w / 2 ^ k ≡ 0 → (z : ℕ) → 64 * n + k < z → has (events_of ((n, w) ∷ [])) z ≡ false
no_event n w k r e z l =
    elim (cases_eq n (z / 64)) [
      | inl h ↦
          let place : z % 64 ≡ k + (z % 64 - k) = omega arith in
          has-events_of_at 0 ((n, w) ∷ []) z r
          ∙ ap (λ b. has_bit (word_at ((n, w) ∷ []) b) (z % 64)) (sym h)
          ∙ ap (λ v. has_bit v (z % 64)) (word_at_first (n, w) [] tt)
          ∙ ap (has_bit w) place ∙ has_bit-shr w k (z % 64 - k) ∙ ap (λ v. has_bit v (z % 64 - k)) e ∙ has_bit-zero (z % 64 - k)
      | inr ne ↦
          has-events_of_at 0 ((n, w) ∷ []) z r ∙ ap (λ v. has_bit v (z % 64)) (word_at_later (n, w) [] (z / 64) ne) ∙ has_bit-zero (z % 64)
    ]

goes_on_words : (more : Bool) (ended : Bool) (n w k : ℕ) (qs : List (ℕ × ℕ)) → AreBlocksFrom 0 ((n, w) ∷ qs) → has_bit w k ≡ false → k < 64 → Follows more qs → eqb (w / 2 ^ k) 0 ≡ ended
    → GoesOn (more || not ended) (events_of ((n, w) ∷ qs)) (64 * n + k)
goes_on_words true ended n w k qs r clear l f e = let z = later_event n w qs r f in (z.0, (let h : 64 * n + 64 ≤ z.0 = z.1 in omega arith), z.2)
goes_on_words false false n w k qs r clear l f e = same_block_event n w k qs r clear (eqb-false (w / 2 ^ k) 0 e)
goes_on_words false true n w k [] r clear l f e = no_event n w k r (eqb-true (w / 2 ^ k) 0 e)
goes_on_words false true n w k (q ∷ qs) r clear l f e = absurd (omega arith)

-- the first has bit k, the second has not, and they agree below
order_where_set : (more : Bool) (n v w k : ℕ) (ps qs : List (ℕ × ℕ)) → AreBlocksFrom 0 ((n, v) ∷ ps) → AreBlocksFrom 0 ((n, w) ∷ qs) → k < 64 → has_bit v k ≡ true → has_bit w k ≡ false
    → ((j : ℕ) → j < k → has_bit v j ≡ has_bit w j) → Follows more qs
    → (slice_cmp nat_cmp (events_of ((n, v) ∷ ps)) (events_of ((n, w) ∷ qs)) ≡ cond (more || not (eqb (w / 2 ^ k) 0)) Less Greater)
    × (slice_cmp nat_cmp (events_of ((n, w) ∷ qs)) (events_of ((n, v) ∷ ps)) ≡ cond (more || not (eqb (w / 2 ^ k) 0)) Greater Less)
order_where_set more n v w k ps qs r s l here clear below f =
    order_at_member (more || not (eqb (w / 2 ^ k) 0)) (64 * n + k) 0 0 (events_of ((n, v) ∷ ps)) (events_of ((n, w) ∷ qs)) (RisesFrom-events_of 0 ((n, v) ∷ ps) r) (RisesFrom-events_of 0 ((n, w) ∷ qs) s)
    (has-events_of 0 ((n, v) ∷ ps) n k r l ∙ ap (λ u. has_bit u k) (word_at_first (n, v) ps r.4) ∙ here)
    (has-events_of 0 ((n, w) ∷ qs) n k s l ∙ ap (λ u. has_bit u k) (word_at_first (n, w) qs s.4) ∙ clear)
    agree
    (goes_on_words more (eqb (w / 2 ^ k) 0) n w k qs s clear l f refl)
  where
    agree : (z : ℕ) → z < 64 * n + k → has (events_of ((n, v) ∷ ps)) z ≡ has (events_of ((n, w) ∷ qs)) z
    agree z m = elim (cases_lt z (64 * n)) [
      | inl h ↦
          has_below (64 * n) (events_of ((n, v) ∷ ps)) z (RisesFrom-events_of n ((n, v) ∷ ps) (le_refl n, r.1, r.2, r.3, r.4)) h
          ∙ sym (has_below (64 * n) (events_of ((n, w) ∷ qs)) z (RisesFrom-events_of n ((n, w) ∷ qs) (le_refl n, s.1, s.2, s.3, s.4)) h)
      | inr h ↦
          let j : ℕ = z - 64 * n in
          let place : z ≡ 64 * n + j = omega arith in
          ap (has (events_of ((n, v) ∷ ps))) place ∙ has-events_of 0 ((n, v) ∷ ps) n j r (omega arith) ∙ ap (λ u. has_bit u j) (word_at_first (n, v) ps r.4)
          ∙ below j (omega arith)
          ∙ sym (ap (has (events_of ((n, w) ∷ qs))) place ∙ has-events_of 0 ((n, w) ∷ qs) n j s (omega arith) ∙ ap (λ u. has_bit u j) (word_at_first (n, w) qs s.4))
    ]

-- the order of two sets whose first blocks have one number and different words
pub order_at_words : (left_more right_more : Bool) (n v w : ℕ) (ps qs : List (ℕ × ℕ)) → AreBlocksFrom 0 ((n, v) ∷ ps) → AreBlocksFrom 0 ((n, w) ∷ qs) → (v ≡ w → ⊥) → Follows left_more ps → Follows right_more qs
    → word_order_at (count_trailing_zeros 64 (bit_xor v w)) v left_more w right_more ≡ slice_cmp nat_cmp (events_of ((n, v) ∷ ps)) (events_of ((n, w) ∷ qs))
order_at_words lm rm n v w ps qs r s ne f g =
    by (has_bit v (count_trailing_zeros 64 (bit_xor v w))) refl
  where
    by : (b : Bool) → has_bit v (count_trailing_zeros 64 (bit_xor v w)) ≡ b → word_order_at (count_trailing_zeros 64 (bit_xor v w)) v lm w rm ≡ slice_cmp nat_cmp (events_of ((n, v) ∷ ps)) (events_of ((n, w) ∷ qs))
    by true e =
        let low = differing_bit v w r.3 s.3 ne in
        let k : ℕ = count_trailing_zeros 64 (bit_xor v w) in
        ap (λ b. cond b (cond (rm || not (eqb (w / 2 ^ k) 0)) Less Greater) (cond (lm || not (eqb (v / 2 ^ k) 0)) Greater Less)) e
        ∙ sym (order_where_set rm n v w k ps qs r s low.0 e (not-true (has_bit w k) (sym low.1 ∙ e)) low.2 g).0
    by false e =
        let low = differing_bit v w r.3 s.3 ne in
        let k : ℕ = count_trailing_zeros 64 (bit_xor v w) in
        ap (λ b. cond b (cond (rm || not (eqb (w / 2 ^ k) 0)) Less Greater) (cond (lm || not (eqb (v / 2 ^ k) 0)) Greater Less)) e
        ∙ sym (order_where_set lm n w v k qs ps s r low.0 (not-false (has_bit w k) (sym low.1 ∙ e)) e (λ j l. sym (low.2 j l)) f).1

-- ---- other first blocks

-- the first number is lower
order_lower : (p q : ℕ × ℕ) (ps qs : List (ℕ × ℕ)) → AreBlocksFrom 0 (p ∷ ps) → AreBlocksFrom 0 (q ∷ qs) → p.0 < q.0
    → (slice_cmp nat_cmp (events_of (p ∷ ps)) (events_of (q ∷ qs)) ≡ Less) × (slice_cmp nat_cmp (events_of (q ∷ qs)) (events_of (p ∷ ps)) ≡ Greater)
order_lower p q ps qs r s l =
    let positive : 0 < p.1 = r.2 in
    let positive' : 0 < q.1 = s.2 in
    let low = lowest_bit p.1 (omega arith) r.3 in
    let k : ℕ = count_trailing_zeros 64 p.1 in
    let bit = bit_of_word q.1 (omega arith) s.3 in
    let none : (z : ℕ) → z < 64 * q.0 → has (events_of (q ∷ qs)) z ≡ false = λ z m. has_below (64 * q.0) (events_of (q ∷ qs)) z (RisesFrom-events_of q.0 (q ∷ qs) (le_refl q.0, s.1, s.2, s.3, s.4)) m in
    order_at_member true (64 * p.0 + k) 0 0 (events_of (p ∷ ps)) (events_of (q ∷ qs)) (RisesFrom-events_of 0 (p ∷ ps) r) (RisesFrom-events_of 0 (q ∷ qs) s)
    (has-events_of 0 (p ∷ ps) p.0 k r low.0 ∙ ap (λ u. has_bit u k) (word_at_first p ps r.4) ∙ low.1)
    (let m : k < 64 = low.0 in none (64 * p.0 + k) (omega arith))
    (λ z m. before z m low.0 low.2 ∙ sym (let h : k < 64 = low.0 in none z (omega arith)))
    (64 * q.0 + bit.0, (let h : k < 64 = low.0 in omega arith), has-events_of 0 (q ∷ qs) q.0 bit.0 s bit.1 ∙ ap (λ u. has_bit u bit.0) (word_at_first q qs s.4) ∙ bit.2)
  where
    before : (z : ℕ) → z < 64 * p.0 + count_trailing_zeros 64 p.1 → count_trailing_zeros 64 p.1 < 64 → ((j : ℕ) → j < count_trailing_zeros 64 p.1 → has_bit p.1 j ≡ false) → has (events_of (p ∷ ps)) z ≡ false
    before z m small clear = elim (cases_lt z (64 * p.0)) [
      | inl h ↦ has_below (64 * p.0) (events_of (p ∷ ps)) z (RisesFrom-events_of p.0 (p ∷ ps) (le_refl p.0, r.1, r.2, r.3, r.4)) h
      | inr h ↦
          let j : ℕ = z - 64 * p.0 in
          let place : z ≡ 64 * p.0 + j = omega arith in
          ap (has (events_of (p ∷ ps))) place ∙ has-events_of 0 (p ∷ ps) p.0 j r (omega arith) ∙ ap (λ u. has_bit u j) (word_at_first p ps r.4) ∙ clear j (omega arith)
    ]

pub order_at_numbers : (ps qs : List (ℕ × ℕ)) (d : ℕ × ℕ) → 0 < length ps → 0 < length qs → AreBlocksFrom 0 ps → AreBlocksFrom 0 qs → ((get_or ps 0 d).0 ≡ (get_or qs 0 d).0 → ⊥)
    → nat_cmp (get_or ps 0 d).0 (get_or qs 0 d).0 ≡ slice_cmp nat_cmp (events_of ps) (events_of qs)
order_at_numbers [] qs d l m r s ne = absurd (omega arith)
order_at_numbers (p ∷ ps) [] d l m r s ne = absurd (omega arith)
order_at_numbers (p ∷ ps) (q ∷ qs) d l m r s ne =
    elim (cases_lt p.0 q.0) [
      | inl h ↦ nat_cmp_lt p.0 q.0 h ∙ sym (order_lower p q ps qs r s h).0
      | inr h ↦ let g : q.0 < p.0 = omega arith in nat_cmp_gt p.0 q.0 g ∙ sym (order_lower q p qs ps s r g).1
    ]

-- a list against the empty one
order_nil : (xs : List ℕ) (z : ℕ) → has xs z ≡ true → (slice_cmp nat_cmp [] xs ≡ Less) × (slice_cmp nat_cmp xs [] ≡ Greater)
order_nil [] z h = absurd (false≢true h)
order_nil (x ∷ xs) z h = (refl, refl)

pub some_event : (p : ℕ × ℕ) (ps : List (ℕ × ℕ)) → AreBlocksFrom 0 (p ∷ ps) → (z : ℕ) × (has (events_of (p ∷ ps)) z ≡ true)
some_event p ps r =
    let positive : 0 < p.1 = r.2 in
    let bit = bit_of_word p.1 (omega arith) r.3 in
    (64 * p.0 + bit.0, has-events_of 0 (p ∷ ps) p.0 bit.0 r bit.1 ∙ ap (λ u. has_bit u bit.0) (word_at_first p ps r.4) ∙ bit.2)

pub order_at_end : (ps qs : List (ℕ × ℕ)) → min (length ps) (length qs) ≡ 0 → AreBlocksFrom 0 ps → AreBlocksFrom 0 qs → nat_cmp (length ps) (length qs) ≡ slice_cmp nat_cmp (events_of ps) (events_of qs)
order_at_end [] [] e r s = refl
order_at_end [] (q ∷ qs) e r s = let some = some_event q qs s in nat_cmp_lt 0 (length (q ∷ qs)) (omega arith) ∙ sym (order_nil (events_of (q ∷ qs)) some.0 some.1).0
order_at_end (p ∷ ps) [] e r s = let some = some_event p ps r in nat_cmp_gt (length (p ∷ ps)) 0 (omega arith) ∙ sym (order_nil (events_of (p ∷ ps)) some.0 some.1).1
order_at_end (p ∷ ps) (q ∷ qs) e r s = absurd (omega arith)

-- ---- the first blocks, by their place

follows_by_length : (b : Bool) (p : ℕ × ℕ) (ps : List (ℕ × ℕ)) → ltb 1 (length (p ∷ ps)) ≡ b → Follows b ps
follows_by_length true p ps e = let h : 1 < length (p ∷ ps) = ltb-true 1 (length (p ∷ ps)) e in omega arith
follows_by_length false p ps e = let h : length (p ∷ ps) ≤ 1 = ltb-false 1 (length (p ∷ ps)) e in omega arith

pub order_at_first_words : (ps qs : List (ℕ × ℕ)) (d : ℕ × ℕ) → 0 < length ps → 0 < length qs → AreBlocksFrom 0 ps → AreBlocksFrom 0 qs → (get_or ps 0 d).0 ≡ (get_or qs 0 d).0 → ((get_or ps 0 d).1 ≡ (get_or qs 0 d).1 → ⊥)
    → word_order_at (count_trailing_zeros 64 (bit_xor (get_or ps 0 d).1 (get_or qs 0 d).1)) (get_or ps 0 d).1 (ltb 1 (length ps)) (get_or qs 0 d).1 (ltb 1 (length qs)) ≡ slice_cmp nat_cmp (events_of ps) (events_of qs)
order_at_first_words [] qs d l m r s e ne = absurd (omega arith)
order_at_first_words (p ∷ ps) [] d l m r s e ne = absurd (omega arith)
order_at_first_words (p ∷ ps) (q ∷ qs) d l m r s e ne =
    let s' : AreBlocksFrom 0 ((p.0, q.1) ∷ qs) = subst (λ n. AreBlocksFrom 0 ((n, q.1) ∷ qs)) (sym e) s in
    order_at_words (ltb 1 (length (p ∷ ps))) (ltb 1 (length (q ∷ qs))) p.0 p.1 q.1 ps qs r s' ne (follows_by_length _ p ps refl) (follows_by_length _ q qs refl)
    ∙ ap (λ n. slice_cmp nat_cmp (events_of (p ∷ ps)) (events_of ((n, q.1) ∷ qs))) e

-- ---- a common front

slice_cmp-append_same : (xs ys zs : List ℕ) → slice_cmp nat_cmp (xs ++ ys) (xs ++ zs) ≡ slice_cmp nat_cmp ys zs
slice_cmp-append_same [] ys zs = refl
slice_cmp-append_same (x ∷ xs) ys zs = ap (λ o. ordering_then o (slice_cmp nat_cmp (xs ++ ys) (xs ++ zs))) (nat_cmp_eq x x refl) ∙ slice_cmp-append_same xs ys zs

pub order_past_front : (ps qs : List (ℕ × ℕ)) (i : ℕ) → take i ps ≡ take i qs → slice_cmp nat_cmp (events_of (drop i ps)) (events_of (drop i qs)) ≡ slice_cmp nat_cmp (events_of ps) (events_of qs)
order_past_front ps qs i e =
    sym (slice_cmp-append_same (events_of (take i ps)) (events_of (drop i ps)) (events_of (drop i qs)))
    ∙ ap (λ xs. slice_cmp nat_cmp (events_of (take i ps) ++ events_of (drop i ps)) (xs ++ events_of (drop i qs))) (ap events_of e)
    ∙ (λ i'. slice_cmp nat_cmp (whole ps i') (whole qs i'))
  where
    whole : (rs : List (ℕ × ℕ)) → events_of (take i rs) ++ events_of (drop i rs) ≡ events_of rs
    whole rs = sym (events_of-append (take i rs) (drop i rs)) ∙ ap events_of (take-append-drop i rs)

pub blocks_past_front : (ps : List (ℕ × ℕ)) (i : ℕ) → AreBlocksFrom 0 ps → AreBlocksFrom 0 (drop i ps)
blocks_past_front ps i r = AreBlocksFrom-weaken 0 (end_from 0 (take i ps)) (drop i ps) (omega arith) (AreBlocksFrom-drop 0 ps i r)
