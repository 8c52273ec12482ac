-- The walk over two lists of blocks: what is done and what is left make the operation of both.
use Rattle.csp_base.proofs.Prelude.{◌≡◌, ℕ, zero, suc, ◌+◌, ◌-◌, ◌*◌, ◌/◌, ◌%◌, ◌^◌, ◌<◌, ◌≤◌, true, false, not, cond, ◌&&◌, ◌||◌, eqb, List, [], ◌∷◌, ◌++◌, length, drop, get_or, min, max, refl, sym, ap, inl, inr, le_refl, ◌∙◌, subst, arith, ◌==◌, bit_and, bit_or, SetOp, Union, Inter, Diff, has_bit, word_at, AreBlocksFrom, events_of, has, combined_of, keeps, least_of, first_word, rest_after, with_word, end_from, bit_at, bit_not, trailing_zeros, w64}
use Rattle.csp_base.proofs.Standard.{false≢true, cases_eq, cases_lt, cases_order, eq-eqb, ne_eqb, lt-ltb, le-ltb, bit_at_and, bit_at_or, bit_at_not, bit_at-lt, bit_at-trailing_zeros, or_lt, and_le_l}
use Rattle.csp_base.proofs.BlockMembers.{AreBlocksFrom-weaken, word_at_below, word_at-append, word_at_first, word_at_later, has-events_of_at, has-events_of}

-- ---- one bit of a word of the result

is_one_max : (a b : ℕ) → a < 2 → b < 2 → eqb (max a b) 1 ≡ (eqb a 1 || eqb b 1)
is_one_max zero zero l m = refl
is_one_max zero (suc zero) l m = refl
is_one_max (suc zero) zero l m = refl
is_one_max (suc zero) (suc zero) l m = refl
is_one_max (suc (suc a)) b l m = absurd (omega arith)
is_one_max a (suc (suc b)) l m = absurd (omega arith)

is_one_min : (a b : ℕ) → a < 2 → b < 2 → eqb (min a b) 1 ≡ (eqb a 1 && eqb b 1)
is_one_min zero zero l m = refl
is_one_min zero (suc zero) l m = refl
is_one_min (suc zero) zero l m = refl
is_one_min (suc zero) (suc zero) l m = refl
is_one_min (suc (suc a)) b l m = absurd (omega arith)
is_one_min a (suc (suc b)) l m = absurd (omega arith)

is_one_not : (a : ℕ) → a < 2 → eqb (1 - a) 1 ≡ not (eqb a 1)
is_one_not zero l = refl
is_one_not (suc zero) l = refl
is_one_not (suc (suc a)) l = absurd (omega arith)

pub has_bit-or : (v w k : ℕ) → has_bit (bit_or v w) k ≡ (has_bit v k || has_bit w k)
has_bit-or v w k = ap (λ n. n == 1) (bit_at_or v w k) ∙ is_one_max (bit_at v k) (bit_at w k) (bit_at-lt v k) (bit_at-lt w k)

pub has_bit-and : (v w k : ℕ) → has_bit (bit_and v w) k ≡ (has_bit v k && has_bit w k)
has_bit-and v w k = ap (λ n. n == 1) (bit_at_and v w k) ∙ is_one_min (bit_at v k) (bit_at w k) (bit_at-lt v k) (bit_at-lt w k)

pub has_bit-not : (w k : ℕ) → w < 2 ^ 64 → k < 64 → has_bit (bit_not w64 w) k ≡ not (has_bit w k)
has_bit-not w k l m = ap (λ n. n == 1) (bit_at_not w64 w k l m) ∙ is_one_not (bit_at w k) (bit_at-lt w k)

pub has_bit-combined_of : (op : SetOp) (v w k : ℕ) → w < 2 ^ 64 → k < 64 → has_bit (combined_of op v w) k ≡ keeps op (has_bit v k) (has_bit w k)
has_bit-combined_of Union v w k l m = has_bit-or v w k
has_bit-combined_of Inter v w k l m = has_bit-and v w k
has_bit-combined_of Diff v w k l m = has_bit-and v (bit_not w64 w) k ∙ ap (λ b. has_bit v k && b) (has_bit-not w k l m)

combined_of-zero : (op : SetOp) → combined_of op 0 0 ≡ 0
combined_of-zero Union = refl
combined_of-zero Inter = refl
combined_of-zero Diff = refl

combined_of-lt : (op : SetOp) (v w : ℕ) → v < 2 ^ 64 → w < 2 ^ 64 → combined_of op v w < 2 ^ 64
combined_of-lt Union v w l m = or_lt 64 v w l m
combined_of-lt Inter v w l m = omega (arith, and_le_l v w)
combined_of-lt Diff v w l m = omega (arith, and_le_l v (bit_not w64 w))

-- ---- one step

pub word_at-lt : (n : ℕ) (ps : List (ℕ × ℕ)) (b : ℕ) → AreBlocksFrom n ps → word_at ps b < 2 ^ 64
word_at-lt n [] b r = omega arith
word_at-lt n (p ∷ ps) b r =
    elim (cases_eq p.0 b) [
      | inl e ↦ subst (λ z. word_at (p ∷ ps) z < 2 ^ 64) e (rw (word_at_first p ps r.4) r.3)
      | inr ne ↦ rw (word_at_later p ps b ne) (word_at-lt (p.0 + 1) ps b r.4)
    ]

-- the first word is the word at that number, where no number is lower
pub first_word-word_at : (n : ℕ) (ps : List (ℕ × ℕ)) → AreBlocksFrom n ps → first_word ps n ≡ word_at ps n
first_word-word_at n [] r = refl
first_word-word_at n (p ∷ ps) r = rw (word_at_below (p.0 + 1) ps n r.4 (let h : n ≤ p.0 = r.0 in omega arith)) (omega arith)

pub AreBlocksFrom-rest_after : (n : ℕ) (ps : List (ℕ × ℕ)) → AreBlocksFrom n ps → AreBlocksFrom (n + 1) (rest_after ps n)
AreBlocksFrom-rest_after n [] r = tt
AreBlocksFrom-rest_after n (p ∷ ps) r =
    elim (cases_eq p.0 n) [
      | inl e ↦ rw (eq-eqb p.0 n e) (subst (λ z. AreBlocksFrom (z + 1) ps) e r.4)
      | inr ne ↦ rw (ne_eqb p.0 n ne) ((let h : n ≤ p.0 = r.0 in omega arith), r.1, r.2, r.3, r.4)
    ]

pub word_at-rest_after : (n : ℕ) (ps : List (ℕ × ℕ)) (b : ℕ) → (n ≡ b → ⊥) → word_at (rest_after ps n) b ≡ word_at ps b
word_at-rest_after n [] b ne = refl
word_at-rest_after n (p ∷ ps) b ne =
    elim (cases_eq p.0 n) [
      | inl e ↦ rw (eq-eqb p.0 n e) (sym (word_at_later p ps b (λ h. ne (sym e ∙ h))))
      | inr h ↦ rw (ne_eqb p.0 n h)
    ]

-- where the two lists have a block, the least number is in bounds, and both begin from it
least_of-ahead : (m : ℕ) (ps qs : List (ℕ × ℕ)) → 0 < length ps + length qs → AreBlocksFrom m ps → AreBlocksFrom m qs → (m ≤ least_of ps qs) × (least_of ps qs < 2 ^ 26) × AreBlocksFrom (least_of ps qs) ps × AreBlocksFrom (least_of ps qs) qs
least_of-ahead m [] [] l r s = absurd (omega arith)
least_of-ahead m [] (q ∷ qs) l r s = (s.0, s.1, tt, (le_refl q.0, s.1, s.2, s.3, s.4))
least_of-ahead m (p ∷ ps) [] l r s = (r.0, r.1, (le_refl p.0, r.1, r.2, r.3, r.4), tt)
least_of-ahead m (p ∷ ps) (q ∷ qs) l r s =
    elim (cases_lt p.0 q.0) [
      | inl h ↦ rw (lt-ltb p.0 q.0 h) (r.0, r.1, (le_refl p.0, r.1, r.2, r.3, r.4), ((omega arith), s.1, s.2, s.3, s.4))
      | inr h ↦ rw (le-ltb p.0 q.0 h) (s.0, s.1, ((omega arith), r.1, r.2, r.3, r.4), (le_refl q.0, s.1, s.2, s.3, s.4))
    ]

-- ---- blocks one after another

pub end_from-push : (m : ℕ) (ps : List (ℕ × ℕ)) (p : ℕ × ℕ) → end_from m (ps ++ p ∷ []) ≡ p.0 + 1
end_from-push m [] p = refl
end_from-push m (q ∷ ps) p = end_from-push (q.0 + 1) ps p

pub AreBlocksFrom-push : (m : ℕ) (ps : List (ℕ × ℕ)) (n w : ℕ) → AreBlocksFrom m ps → end_from m ps ≤ n → n < 2 ^ 26 → 0 < w → w < 2 ^ 64 → AreBlocksFrom m (ps ++ (n, w) ∷ [])
AreBlocksFrom-push m [] n w r e b l h = (e, b, l, h, tt)
AreBlocksFrom-push m (q ∷ ps) n w r e b l h = (r.0, r.1, r.2, r.3, AreBlocksFrom-push (q.0 + 1) ps n w r.4 e b l h)

AreBlocksFrom-with_word : (m : ℕ) (ps : List (ℕ × ℕ)) (n w : ℕ) → AreBlocksFrom m ps → end_from m ps ≤ n → n < 2 ^ 26 → w < 2 ^ 64 → AreBlocksFrom m (with_word ps n w)
AreBlocksFrom-with_word m ps n w r e b h =
    elim (cases_eq w 0) [
      | inl z ↦ rw (eq-eqb w 0 z) r
      | inr z ↦ rw (ne_eqb w 0 z) (AreBlocksFrom-push m ps n w r e b (omega arith) h)
    ]

end_from-with_word : (m : ℕ) (ps : List (ℕ × ℕ)) (n w : ℕ) → end_from m ps ≤ n → end_from m (with_word ps n w) ≤ n + 1
end_from-with_word m ps n w e =
    elim (eqb w 0) as (λ b. end_from m (cond b ps (ps ++ (n, w) ∷ [])) ≤ n + 1) [
      | true ↦ omega arith
      | false ↦ rw (end_from-push m ps (n, w)) (le_refl (n + 1))
    ]

word_at-with_word : (ps : List (ℕ × ℕ)) (n w b : ℕ) → word_at (with_word ps n w) b ≡ word_at ps b + cond (eqb n b) w 0
word_at-with_word ps n w b =
    elim (cases_eq w 0) [
      | inl z ↦ rw (eq-eqb w 0 z) (rw z (elim (eqb n b) as (λ c. word_at ps b ≡ word_at ps b + cond c 0 0) [ true ↦ omega arith | false ↦ omega arith ]))
      | inr z ↦ rw (ne_eqb w 0 z, word_at-append ps ((n, w) ∷ []) b) (omega arith)
    ]

-- ---- the walk

-- `out` is done, `ps` and `qs` are left of `left` and `right`
pub record IsMerging (op : SetOp) (left right out ps qs : List (ℕ × ℕ)) : Type 0 where
  pub done : AreBlocksFrom 0 out
  pub first_ahead : AreBlocksFrom (end_from 0 out) ps
  pub second_ahead : AreBlocksFrom (end_from 0 out) qs
  pub words : (b : ℕ) → word_at out b + combined_of op (word_at ps b) (word_at qs b) ≡ combined_of op (word_at left b) (word_at right b)

step_words : (op : SetOp) (out ps qs : List (ℕ × ℕ)) (n b : ℕ) → AreBlocksFrom n ps → AreBlocksFrom n qs
    → word_at (with_word out n (combined_of op (first_word ps n) (first_word qs n))) b + combined_of op (word_at (rest_after ps n) b) (word_at (rest_after qs n) b)
    ≡ word_at out b + combined_of op (word_at ps b) (word_at qs b)
step_words op out ps qs n b r s =
    rw (word_at-with_word out n (combined_of op (first_word ps n) (first_word qs n)) b)
    (elim (cases_eq n b) [
      | inl e ↦ subst (λ z. (word_at out z + cond (eqb n z) (combined_of op (first_word ps n) (first_word qs n)) 0) + combined_of op (word_at (rest_after ps n) z) (word_at (rest_after qs n) z) ≡ word_at out z + combined_of op (word_at ps z) (word_at qs z)) e
          (rw (eq-eqb n n refl, first_word-word_at n ps r, first_word-word_at n qs s, word_at_below (n + 1) (rest_after ps n) n (AreBlocksFrom-rest_after n ps r) (omega arith), word_at_below (n + 1) (rest_after qs n) n (AreBlocksFrom-rest_after n qs s) (omega arith), combined_of-zero op) (omega arith))
      | inr ne ↦ rw (ne_eqb n b ne, word_at-rest_after n ps b ne, word_at-rest_after n qs b ne) (omega arith)
    ])

pub IsMerging-step : (op : SetOp) (left right out ps qs : List (ℕ × ℕ)) → IsMerging op left right out ps qs → 0 < length ps + length qs
    → IsMerging op left right (with_word out (least_of ps qs) (combined_of op (first_word ps (least_of ps qs)) (first_word qs (least_of ps qs)))) (rest_after ps (least_of ps qs)) (rest_after qs (least_of ps qs))
IsMerging-step op left right out ps qs m l =
    let n : ℕ = least_of ps qs in
    let ahead = least_of-ahead (end_from 0 out) ps qs l m.first_ahead m.second_ahead in
    let v : first_word ps n < 2 ^ 64 = rw (first_word-word_at n ps ahead.2) (word_at-lt n ps n ahead.2) in
    let w : first_word qs n < 2 ^ 64 = rw (first_word-word_at n qs ahead.3) (word_at-lt n qs n ahead.3) in
    let word : ℕ = combined_of op (first_word ps n) (first_word qs n) in
    let end : end_from 0 (with_word out n word) ≤ n + 1 = end_from-with_word 0 out n word ahead.0 in
    record {
      done = AreBlocksFrom-with_word 0 out n word m.done ahead.0 ahead.1 (combined_of-lt op (first_word ps n) (first_word qs n) v w);
      first_ahead = AreBlocksFrom-weaken (end_from 0 (with_word out n word)) (n + 1) (rest_after ps n) end (AreBlocksFrom-rest_after n ps ahead.2);
      second_ahead = AreBlocksFrom-weaken (end_from 0 (with_word out n word)) (n + 1) (rest_after qs n) end (AreBlocksFrom-rest_after n qs ahead.3);
      words = λ b. step_words op out ps qs n b ahead.2 ahead.3 ∙ m.words b;
    }

-- ---- what the words say of the members

pub keeps-members : (op : SetOp) (ps qs rs : List (ℕ × ℕ)) → AreBlocksFrom 0 ps → AreBlocksFrom 0 qs → AreBlocksFrom 0 rs
    → ((b : ℕ) → word_at rs b ≡ combined_of op (word_at ps b) (word_at qs b))
    → (x : ℕ) → has (events_of rs) x ≡ keeps op (has (events_of ps) x) (has (events_of qs) x)
keeps-members op ps qs rs r s t words x =
    rw (has-events_of_at 0 ps x r, has-events_of_at 0 qs x s, has-events_of_at 0 rs x t, words (x / 64))
    (has_bit-combined_of op (word_at ps (x / 64)) (word_at qs (x / 64)) (x % 64) (word_at-lt 0 qs (x / 64) s) (omega arith))

-- at the end of the walk
pub IsMerging-words : (op : SetOp) (left right out ps qs : List (ℕ × ℕ)) → IsMerging op left right out ps qs → length ps + length qs ≡ 0
    → (b : ℕ) → word_at out b ≡ combined_of op (word_at left b) (word_at right b)
IsMerging-words op left right out [] [] m l b = let h : word_at out b + 0 ≡ combined_of op (word_at left b) (word_at right b) = rw combined_of-zero at (m.words b) in omega arith
IsMerging-words op left right out (p ∷ ps) qs m l b = absurd (omega arith)
IsMerging-words op left right out [] (q ∷ qs) m l b = absurd (omega arith)

pub IsMerging-members : (op : SetOp) (left right out ps qs : List (ℕ × ℕ)) → AreBlocksFrom 0 left → AreBlocksFrom 0 right → IsMerging op left right out ps qs → length ps + length qs ≡ 0
    → (x : ℕ) → has (events_of out) x ≡ keeps op (has (events_of left) x) (has (events_of right) x)
IsMerging-members op left right out ps qs r s m l = keeps-members op left right out r s m.done (IsMerging-words op left right out ps qs m l)

-- a word that is not 0 has a bit
pub bit_of_word : (w : ℕ) → (w ≡ 0 → ⊥) → w < 2 ^ 64 → (k : ℕ) × (k < 64) × (has_bit w k ≡ true)
bit_of_word w ne l =
    let lowest = bit_at-trailing_zeros w64 w (omega arith) l in
    (trailing_zeros w64 w, lowest.0, eq-eqb (bit_at w (trailing_zeros w64 w)) 1 lowest.1)

member_of_word : (op : SetOp) (ps qs : List (ℕ × ℕ)) (b : ℕ) → AreBlocksFrom 0 ps → AreBlocksFrom 0 qs → (combined_of op (word_at ps b) (word_at qs b) ≡ 0 → ⊥)
    → (x : ℕ) × (keeps op (has (events_of ps) x) (has (events_of qs) x) ≡ true)
member_of_word op ps qs b r s ne =
    let bit = bit_of_word (combined_of op (word_at ps b) (word_at qs b)) ne (combined_of-lt op (word_at ps b) (word_at qs b) (word_at-lt 0 ps b r) (word_at-lt 0 qs b s)) in (
      64 * b + bit.0,
      rw (has-events_of 0 ps b bit.0 r bit.1, has-events_of 0 qs b bit.0 s bit.1)
          (sym (has_bit-combined_of op (word_at ps b) (word_at qs b) bit.0 (word_at-lt 0 qs b s) bit.1) ∙ bit.2),
    )

-- ---- the walk over the left alone, for an operation that keeps nothing of the right alone

combined_of-right : (op : SetOp) (w : ℕ) → keeps op false true ≡ false → combined_of op 0 w ≡ 0
combined_of-right Union w o = absurd (false≢true (sym o))
combined_of-right Inter w o = omega (arith, and_le_l 0 w)
combined_of-right Diff w o = omega (arith, and_le_l 0 (bit_not w64 w))

-- the words at the first block of the left, where `rs` is what is left of the right from its number on
front_words : (op : SetOp) (p : ℕ × ℕ) (ps qs rs : List (ℕ × ℕ)) → AreBlocksFrom (p.0 + 1) ps → AreBlocksFrom p.0 rs → ((b : ℕ) → p.0 ≤ b → word_at rs b ≡ word_at qs b)
    → combined_of op (word_at (p ∷ ps) p.0) (word_at qs p.0) ≡ combined_of op p.1 (first_word rs p.0)
front_words op p ps qs rs r t same =
    ap (λ w. combined_of op w (word_at qs p.0)) (word_at_first p ps r) ∙ ap (combined_of op p.1) (sym (first_word-word_at p.0 rs t ∙ same p.0 (le_refl p.0)))

pub IsMerging-found : (op : SetOp) (left right ps qs rs : List (ℕ × ℕ)) (d : ℕ × ℕ) → AreBlocksFrom 0 left → AreBlocksFrom 0 right → IsMerging op left right [] ps qs → 0 < length ps
    → AreBlocksFrom (get_or ps 0 d).0 rs → ((b : ℕ) → (get_or ps 0 d).0 ≤ b → word_at rs b ≡ word_at qs b)
    → (combined_of op (get_or ps 0 d).1 (first_word rs (get_or ps 0 d).0) ≡ 0 → ⊥)
    → (x : ℕ) × (keeps op (has (events_of left) x) (has (events_of right) x) ≡ true)
IsMerging-found op left right [] qs rs d r s m l t same ne = absurd (omega arith)
IsMerging-found op left right (p ∷ ps) qs rs d r s m l t same ne =
    member_of_word op left right p.0 r s
    (λ z. ne (sym (front_words op p ps qs rs m.first_ahead.4 t same) ∙ (let h : 0 + combined_of op (word_at (p ∷ ps) p.0) (word_at qs p.0) ≡ combined_of op (word_at left p.0) (word_at right p.0) = m.words p.0 in omega arith)))

pub IsMerging-next : (op : SetOp) (left right ps qs rs : List (ℕ × ℕ)) (d : ℕ × ℕ) → keeps op false true ≡ false → IsMerging op left right [] ps qs → 0 < length ps
    → AreBlocksFrom (get_or ps 0 d).0 rs → ((b : ℕ) → (get_or ps 0 d).0 ≤ b → word_at rs b ≡ word_at qs b)
    → combined_of op (get_or ps 0 d).1 (first_word rs (get_or ps 0 d).0) ≡ 0
    → IsMerging op left right [] (drop 1 ps) (rest_after rs (get_or ps 0 d).0)
IsMerging-next op left right [] qs rs d o m l t same z = absurd (omega arith)
IsMerging-next op left right (p ∷ ps) qs rs d o m l t same z = record {
  done = tt;
  first_ahead = AreBlocksFrom-weaken 0 (p.0 + 1) ps (omega arith) m.first_ahead.4;
  second_ahead = AreBlocksFrom-weaken 0 (p.0 + 1) (rest_after rs p.0) (omega arith) (AreBlocksFrom-rest_after p.0 rs t);
  words = λ b. ap (λ w. 0 + w) (same_word b) ∙ m.words b;
}
  where
    same_word : (b : ℕ) → combined_of op (word_at ps b) (word_at (rest_after rs p.0) b) ≡ combined_of op (word_at (p ∷ ps) b) (word_at qs b)
    same_word b =
        elim (cases_order p.0 b) [
          | inl e ↦ subst (λ n. combined_of op (word_at ps n) (word_at (rest_after rs p.0) n) ≡ combined_of op (word_at (p ∷ ps) n) (word_at qs n)) e
              (ap (λ w. combined_of op w (word_at (rest_after rs p.0) p.0)) (word_at_below (p.0 + 1) ps p.0 m.first_ahead.4 (omega arith)) ∙ combined_of-right op (word_at (rest_after rs p.0) p.0) o
              ∙ sym (front_words op p ps qs rs m.first_ahead.4 t same ∙ z))
          | inr h ↦
              elim h [
                | inl h ↦ rw (word_at-rest_after p.0 rs b (λ e. omega arith), same b (omega arith), word_at_later p ps b (λ e. omega arith)) refl
                | inr h ↦ rw (word_at_later p ps b (λ e. omega arith), word_at_below (p.0 + 1) ps b m.first_ahead.4 (omega arith), combined_of-right op (word_at (rest_after rs p.0) b) o, combined_of-right op (word_at qs b) o) refl
              ]
        ]

pub IsMerging-none : (op : SetOp) (left right ps qs : List (ℕ × ℕ)) → keeps op false true ≡ false → AreBlocksFrom 0 left → AreBlocksFrom 0 right → IsMerging op left right [] ps qs → length ps ≡ 0
    → (x : ℕ) → keeps op (has (events_of left) x) (has (events_of right) x) ≡ false
IsMerging-none op left right [] qs o r s m l x =
    sym (keeps-members op left right [] r s tt (λ b. let h : 0 + combined_of op 0 (word_at qs b) ≡ combined_of op (word_at left b) (word_at right b) = m.words b in omega (arith, h, combined_of-right op (word_at qs b) o)) x)
IsMerging-none op left right (p ∷ ps) qs o r s m l x = absurd (omega arith)
