-- How many marks stand before a number, and how that changes where another mark is put.
use Rattle.numbered_walks.proofs.Prelude.{◌≡◌, ℕ, zero, suc, ◌+◌, ◌*◌, ◌<◌, ◌≤◌, inl, inr, Bool, true, false, List, [], ◌∷◌, Some, length, take, set, get_or, slice_get, replicate, refl, sym, ap, subst, ◌∙◌, add-one, arith, ◌/◌, get_or_default, get_or-set_other, get_or-set_same, length-set, length-replicate, length-take, cases_eq, cases_lt, AreBlockCounts, bit, mark_count, marked, places_from}

-- the mark, where the number is below the other
upto : Bool → ℕ → ℕ → ℕ
upto b i zero = 0
upto b zero (suc n) = bit b
upto b (suc i) (suc n) = upto b i n

upto_is : (b : Bool) (i n : ℕ) → i < n → upto b i n ≡ bit b
unfolding upto
upto_is b i zero h = absurd (omega (arith, h))
upto_is b zero (suc n) h = refl
upto_is b (suc i) (suc n) h = upto_is b i n (omega (arith, h))

upto_none : (b : Bool) (i n : ℕ) → n ≤ i → upto b i n ≡ 0
unfolding upto
upto_none b i zero h = refl
upto_none b zero (suc n) h = absurd (omega (arith, h))
upto_none b (suc i) (suc n) h = upto_none b i n (omega (arith, h))

pub one_mark : (b : Bool) (ms : List Bool) → mark_count (b ∷ ms) ≡ bit b + mark_count ms
one_mark true ms = omega arith
one_mark false ms = omega arith

-- another mark, among all and among those before a number
all_changed : (i : ℕ) (ms : List Bool) (v : Bool) → i < length ms → mark_count (set ms i v) + bit (get_or ms i false) ≡ mark_count ms + bit v
all_changed i [] v h = absurd (omega (arith, h))
all_changed zero (m ∷ ms) v h = let new = one_mark v ms in let old = one_mark m ms in omega (arith, new, old)
all_changed (suc i) (m ∷ ms) v h =
    let rest = all_changed i ms v (omega (arith, h)) in
    let new = one_mark m (set ms i v) in
    let old = one_mark m ms in
    omega (arith, rest, new, old)

changed : (n i : ℕ) (ms : List Bool) (v : Bool) → i < length ms → mark_count (take n (set ms i v)) + upto (get_or ms i false) i n ≡ mark_count (take n ms) + upto v i n
unfolding upto
changed n i [] v h = absurd (omega (arith, h))
changed zero zero (m ∷ ms) v h = refl
changed zero (suc i) (m ∷ ms) v h = refl
changed (suc n) zero (m ∷ ms) v h = let new = one_mark v (take n ms) in let old = one_mark m (take n ms) in omega (arith, new, old)
changed (suc n) (suc i) (m ∷ ms) v h =
    let rest = changed n i ms v (omega (arith, h)) in
    let new = one_mark m (take n (set ms i v)) in
    let old = one_mark m (take n ms) in
    omega (arith, rest, new, old)

pub at_most : (ms : List Bool) → mark_count ms ≤ length ms
at_most [] = omega arith
at_most (true ∷ ms) = let rest = at_most ms in omega (arith, rest)
at_most (false ∷ ms) = let rest = at_most ms in omega (arith, rest)

-- one number further
next_mark : (n : ℕ) (ms : List Bool) → n < length ms → mark_count (take (suc n) ms) ≡ mark_count (take n ms) + bit (get_or ms n false)
next_mark n [] h = absurd (omega (arith, h))
next_mark zero (b ∷ ms) h = let one = one_mark b [] in omega (arith, one)
next_mark (suc n) (b ∷ ms) h =
    let rest = next_mark n ms (omega (arith, h)) in
    let new = one_mark b (take (suc n) ms) in
    let old = one_mark b (take n ms) in
    omega (arith, rest, new, old)

-- the marked number in the place that so many marks before it give
pub nth_place : (k n : ℕ) (ms : List Bool) → n < length ms → get_or ms n false ≡ true → slice_get (places_from k ms) (mark_count (take n ms)) ≡ Some (k + n)
nth_place k n [] h m = absurd (omega (arith, h))
nth_place k zero (true ∷ ms) h m = ap Some (omega arith)
nth_place k zero (false ∷ ms) h m = absurd (cc)
nth_place k (suc n) (true ∷ ms) h m =
    ap (λ j. slice_get (k ∷ places_from (k + 1) ms) j) (add-one (mark_count (take n ms))) ∙ nth_place (k + 1) n ms (omega (arith, h)) m ∙ ap Some (omega arith)
nth_place k (suc n) (false ∷ ms) h m = nth_place (k + 1) n ms (omega (arith, h)) m ∙ ap Some (omega arith)

pub block_from : (i : ℕ) → 64 * (i / 64) ≤ i
block_from i = omega arith

pub block_to : (i : ℕ) → i < 64 * (i / 64) + 64
block_to i = omega arith

-- the block of a number lies before it, and each other block on one side
same_side : (v : Bool) (i q b : ℕ) → 64 * q ≤ i → i < 64 * q + 64 → (b ≡ q → ⊥) → upto v i (64 * b) ≡ upto v i (64 * (b + 1))
same_side v i q b from to other =
    elim (cases_lt b q) [
      | inl less ↦ upto_none v i (64 * b) (omega (arith, less, from)) ∙ sym (upto_none v i (64 * (b + 1)) (omega (arith, less, from)))
      | inr more ↦
          let above : q < b = elim (cases_lt q b) [ inl there ↦ there | inr here ↦ absurd (other (omega (arith, here, more))) ] in
          upto_is v i (64 * b) (omega (arith, above, to)) ∙ sym (upto_is v i (64 * (b + 1)) (omega (arith, above, to)))
    ]

pub more_marks : (m n : ℕ) (ms : List Bool) → m ≤ n → mark_count (take m ms) ≤ mark_count (take n ms)
more_marks zero n ms h = omega arith
more_marks (suc m) zero ms h = absurd (omega (arith, h))
more_marks (suc m) (suc n) [] h = omega arith
more_marks (suc m) (suc n) (true ∷ ms) h = let rest = more_marks m n ms (omega (arith, h)) in omega (arith, rest)
more_marks (suc m) (suc n) (false ∷ ms) h = more_marks m n ms (omega (arith, h))

module _ (ms : List Bool) (counts : List ℕ) (i q : ℕ) (are : AreBlockCounts ms counts) (within : i < length ms) (from : 64 * q ≤ i) (to : i < 64 * q + 64) where
  pub has_block : q < length counts
  has_block = let cover = are.cover in omega (arith, cover)

  -- another mark is put
  pub mark_changed : (v : Bool) (c : ℕ) → c + bit (get_or ms i false) ≡ get_or counts q 0 + bit v → AreBlockCounts (set ms i v) (set counts q c)
  mark_changed v c count = record {
    cover = rw (length-set ms i v, length-set counts q c) are.cover;
    each = λ b.
        let before = changed (64 * b) i ms v within in
        let after = changed (64 * (b + 1)) i ms v within in
        let here = are.each b in
        elim (cases_eq b q) as (λ _. mark_count (take (64 * b) (set ms i v)) + get_or (set counts q c) b 0 ≡ mark_count (take (64 * (b + 1)) (set ms i v))) [
          | inl same ↦
              let read : get_or (set counts q c) b 0 ≡ c = subst (λ k. get_or (set counts q c) k 0 ≡ c) (sym same) (get_or-set_same counts q c 0 has_block) in
              let at : get_or counts b 0 ≡ get_or counts q 0 = ap (λ k. get_or counts k 0) same in
              let low = upto_none v i (64 * b) (omega (arith, same, from)) in
              let old_low = upto_none (get_or ms i false) i (64 * b) (omega (arith, same, from)) in
              let high = upto_is v i (64 * (b + 1)) (omega (arith, same, to)) in
              let old_high = upto_is (get_or ms i false) i (64 * (b + 1)) (omega (arith, same, to)) in
              omega (arith, before, after, here, read, at, low, high, old_low, old_high, count)
          | inr other ↦
              let read = get_or-set_other counts q b c 0 other in
              let side = same_side v i q b from to other in
              let old_side = same_side (get_or ms i false) i q b from to other in
              omega (arith, before, after, here, read, side, old_side)
        ];
  }

  -- a marked number counts in its block
  pub some_here : bit (get_or ms i false) ≤ get_or counts q 0
  some_here =
      let before = changed (64 * q) i ms false within in
      let after = changed (64 * (q + 1)) i ms false within in
      let here = are.each q in
      let low = upto_none (get_or ms i false) i (64 * q) from in
      let high = upto_is (get_or ms i false) i (64 * (q + 1)) (omega (arith, to)) in
      let none = upto_none false i (64 * q) from in
      let no_more = upto_is false i (64 * (q + 1)) (omega (arith, to)) in
      let grown = more_marks (64 * q) (64 * (q + 1)) (set ms i false) (omega arith) in
      omega (arith, before, after, here, low, high, none, no_more, grown)

  pub few_here : get_or counts q 0 ≤ length ms
  few_here =
      let here = are.each q in
      let front = at_most (take (64 * (q + 1)) ms) in
      omega (arith, here, front, length-take (64 * (q + 1)) ms)

-- no mark is set
pub none_marked : (n : ℕ) → mark_count (replicate n false) ≡ 0
none_marked zero = refl
none_marked (suc n) = none_marked n

none_in_front : (m n : ℕ) → mark_count (take m (replicate n false)) ≡ 0
none_in_front zero n = refl
none_in_front (suc m) zero = refl
none_in_front (suc m) (suc n) = none_in_front m n

pub none_at : {A : Type 0} (o : A) (n i : ℕ) → get_or (replicate n o) i o ≡ o
none_at o zero b = refl
none_at o (suc n) zero = refl
none_at o (suc n) (suc b) = none_at o n b

pub none_counted : (n m : ℕ) → n < 64 * m → AreBlockCounts (replicate n false) (replicate m 0)
none_counted n m h = record {
  cover = let o : ℕ = 0 in rw (length-replicate n false, length-replicate m o) (omega (arith, h));
  each = λ b. let front = none_in_front (64 * b) n in let more = none_in_front (64 * (b + 1)) n in let read = none_at {A = ℕ} 0 m b in omega (arith, front, more, read);
}

-- the whole state of marks with their counts, changed in one number
module _ (ms : List Bool) (counts : List ℕ) (total i : ℕ) (inv : AreBlockCounts ms counts × (total ≡ mark_count ms)) (seen : List Bool) (view : ms ≡ seen) (below : i < length seen) (b : Bool) (read : b ≡ get_or ms i b) where
  within : i < length ms
  within = subst (λ (xs : List Bool). i < length xs) (sym view) below

  old_mark : b ≡ get_or ms i false
  old_mark = read ∙ get_or_default ms i b false within

  pub set_one : (v : Bool) (x c n : ℕ) → x ≡ get_or counts (i / 64) x → c + bit b ≡ x + bit v → n + bit b ≡ total + bit v → AreBlockCounts (set ms i v) (set counts (i / 64) c) × (n ≡ mark_count (set ms i v))
  set_one v x c n at count all =
      let here : x ≡ get_or counts (i / 64) 0 = at ∙ get_or_default counts (i / 64) x 0 (has_block ms counts i (i / 64) inv.0 within (block_from i) (block_to i)) in
      let old : bit b ≡ bit (get_or ms i false) = ap bit old_mark in
      let whole = all_changed i ms v within in
      let is = inv.1 in
      (mark_changed ms counts i (i / 64) inv.0 within (block_from i) (block_to i) v c (omega (arith, count, here, old)), omega (arith, all, old, whole, is))

  pub in_block : (x : ℕ) → x ≡ get_or counts (i / 64) x → (bit b ≤ x) × (x ≤ length ms)
  in_block x at =
      let here : x ≡ get_or counts (i / 64) 0 = at ∙ get_or_default counts (i / 64) x 0 (has_block ms counts i (i / 64) inv.0 within (block_from i) (block_to i)) in
      let old : bit b ≡ bit (get_or ms i false) = ap bit old_mark in
      let some = some_here ms counts i (i / 64) inv.0 within (block_from i) (block_to i) in
      let few = few_here ms counts i (i / 64) inv.0 within (block_from i) (block_to i) in
      (omega (arith, here, old, some), omega (arith, here, few))

  pub in_all : (bit b ≤ total) × (total ≤ length ms)
  in_all =
      let old : bit b ≡ bit (get_or ms i false) = ap bit old_mark in
      let whole = all_changed i ms false within in
      let most = at_most ms in
      let is = inv.1 in
      (omega (arith, old, whole, is), omega (arith, most, is))

-- one number further on the way to a marked one
pub passed_mark : (ms : List Bool) (n left next place : ℕ) (b : Bool) → n < length ms → get_or ms n false ≡ b → next + bit b ≡ left → mark_count (take n ms) + left ≡ place → mark_count (take (n + 1) ms) + next ≡ place
passed_mark ms n left next place b within is less so_far =
    let more = ap (λ k. mark_count (take k ms)) (add-one n) ∙ next_mark n ms within in
    let mark : bit (get_or ms n false) ≡ bit b = ap bit is in
    omega (arith, more, mark, less, so_far)

pub found_mark : (ms : List Bool) (n left place : ℕ) → n < length ms → get_or ms n false ≡ true → left ≡ 0 → mark_count (take n ms) + left ≡ place → slice_get (marked ms) place ≡ Some n
found_mark ms n left place within is none so_far =
    let here : mark_count (take n ms) ≡ place = omega (arith, none, so_far) in
    subst (λ j. slice_get (marked ms) j ≡ Some n) here (nth_place 0 n ms within is ∙ ap Some (omega arith))
