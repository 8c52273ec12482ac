-- The first partition, the members of a block, and a block that is taken from those that wait.
use Rattle.partitions.proofs.Prelude.{◌≡◌, ℕ, suc, ◌+◌, ◌-◌, ◌<◌, ◌≤◌, ◌⊎◌, inl, inr, List, [], ◌∷◌, ◌++◌, length, set, get_or, take, drop, replicate, ◌^◌, Bool, true, false, nat_eq, refl, sym, ap, ◌∙◌, subst, arith, slice_index, slice_index_or, ◌↔◌, cases_eq, cases_lt, or_cases, eqb-true, false≢true, length-set, length_push, length-replicate, get_or-replicate, get_or-set_other, get_or-set_same, get_or-take, get_or-drop, length-take-le, length-drop, get_or_past, has, State, HasBlocks, IsWhole, IsTaken, block_at, waits, sizes, has_push_cases, has_at}
use Rattle.partitions.proofs.Marking.{has_push, has_more}
use Rattle.partitions.proofs.Awaiting.{blocks_waiting}

pub place_of : (xs : List ℕ) (i : ℕ) → has xs i ≡ true → (k : ℕ) × (k < length xs) × (get_or xs k 0 ≡ i)
place_of [] i h = absurd (false≢true h)
place_of (x ∷ xs) i h = elim (or_cases (nat_eq x i) (has xs i) h) as (λ _. (k : ℕ) × (k < suc (length xs)) × (get_or (x ∷ xs) k 0 ≡ i)) [
  | inl here ↦ (0, omega arith, eqb-true x i here)
  | inr later ↦ let p = place_of xs i later in let l = p.1 in (suc p.0, omega arith, p.2)
]

module _ (n : ℕ) (s : State) (b f e : ℕ) (good : HasBlocks n s) (inside : b < length s.firsts) (is_f : f ≡ slice_index s.firsts b) (is_e : e ≡ slice_index s.ends b) where
  part_len : length (take (e - f) (drop f s.order)) ≡ e - f
  part_len = let p = good.spans b inside in length-take-le (e - f) (drop f s.order) (let l = length-drop f s.order in omega (arith, p.3, good.order_len))

  part_at : (k : ℕ) → k < e - f → get_or (take (e - f) (drop f s.order)) k 0 ≡ get_or s.order (f + k) 0
  part_at k h = get_or-take (e - f) (drop f s.order) k 0 h ∙ get_or-drop f s.order k 0

  pub members_are : (i : ℕ) → (has (take (e - f) (drop f s.order)) i ≡ true) ↔ ((i < n) × (block_at s i ≡ b))
  members_are i =
      let q = good.spans b inside in (
        λ h.
            let p = place_of (take (e - f) (drop f s.order)) i h in
            let k : p.0 < e - f = subst (λ m. p.0 < m) part_len p.1 in
            let is : get_or s.order (f + p.0) 0 ≡ i = sym (part_at p.0 k) ∙ p.2 in
            let below : f + p.0 < n = omega (arith, q.3) in (
              subst (λ x. x < n) is (good.ordered (f + p.0) below).0,
              ap (λ x. block_at s x) (sym is) ∙ good.owned b (f + p.0) inside (omega arith) (omega arith),
            ),
        λ r.
            let w = good.within i r.0 in
            let low : f ≤ slice_index s.places i = subst (λ x. x ≤ slice_index s.places i) (sym is_f) (subst (λ c. slice_index s.firsts c ≤ slice_index s.places i) r.1 w.0) in
            let high : slice_index s.places i < e = subst (λ x. slice_index s.places i < x) (sym is_e) (subst (λ c. slice_index s.places i < slice_index s.ends c) r.1 w.1) in
            let k : slice_index s.places i - f < e - f = omega arith in
            let back : f + (slice_index s.places i - f) ≡ slice_index s.places i = omega arith in
            let is : get_or (take (e - f) (drop f s.order)) (slice_index s.places i - f) 0 ≡ i = part_at (slice_index s.places i - f) k ∙ ap (λ x. get_or s.order x 0) back ∙ (good.placed i r.0).1 in
            subst (λ x. has (take (e - f) (drop f s.order)) x ≡ true) is (has_at (take (e - f) (drop f s.order)) (slice_index s.places i - f) (subst (λ m. slice_index s.places i - f < m) (sym part_len) k)),
      )

-- one of those that wait is taken
module _ (n : ℕ) (s : State) (b : ℕ) (rest : List ℕ) (flags : List Bool) (good : HasBlocks n s) (is_flags : flags ≡ set s.flags b false) (waiting : s.waiting ≡ rest ++ b ∷ []) where
  waited : has s.waiting b ≡ true
  waited = subst (λ (xs : List ℕ). has xs b ≡ true) (sym waiting) (has_push rest b)

  known : b < length s.firsts
  known = good.known b waited

  waits_then : (c : ℕ) → (c ≡ b → ⊥) → slice_index_or flags c false ≡ waits s c
  waits_then c ne = ap (λ (xs : List Bool). slice_index_or xs c false) is_flags ∙ get_or-set_other s.flags b c false false ne

  waits_not : slice_index_or flags b false ≡ false
  waits_not = ap (λ (xs : List Bool). slice_index_or xs b false) is_flags ∙ get_or-set_same s.flags b false false (subst (λ k. b < k) (sym good.flags_len) known)

  pub block_taken : IsTaken n s (record s { waiting = rest; flags = flags }) b
  block_taken = record {
    waited = waited;
    fit = blocks_waiting n s rest flags good (ap (λ (xs : List Bool). length xs) is_flags ∙ length-set s.flags b false)
        (λ c h. elim (cases_eq c b) as (λ _. has rest c ≡ true) [
          | inl e ↦ absurd (false≢true (sym waits_not ∙ ap (λ x. slice_index_or flags x false) (sym e) ∙ h))
          | inr ne ↦ elim (has_push_cases rest b c (subst (λ (xs : List ℕ). has xs c ≡ true) waiting (good.listed c (sym (waits_then c ne) ∙ h)))) as (λ _. has rest c ≡ true) [ inl old ↦ old | inr e ↦ absurd (ne (sym e)) ]
        ])
        (λ c h. good.known c (subst (λ (xs : List ℕ). has xs c ≡ true) (sym waiting) (has_more rest b c h)));
    calm = λ calm. calm;
    known = known;
    blocks = refl;
    others = waits_then;
    less = let e = length_push rest b in let q : length s.waiting ≡ length rest + 1 = ap (λ (xs : List ℕ). length xs) waiting ∙ e in omega arith;
  }

-- the first partition: k is the number of blocks, one unless there is no node
abbrev pub start : ℕ → ℕ → List ℕ → List ℕ → State
start n k order places = record { order = order; places = places; blocks = replicate n 0; firsts = replicate k 0; middles = replicate k 0; ends = replicate k n; waiting = replicate k 0; flags = replicate k true }

module _ (n k : ℕ) (order places : List ℕ) (small : n < 2 ^ 32) (blocks_are : ((n ≡ 0) × (k ≡ 0)) ⊎ ((0 < n) × (k ≡ 1))) (order_len : length order ≡ n) (order_at : (i : ℕ) → i < n → slice_index order i ≡ i) (places_len : length places ≡ n) (places_at : (i : ℕ) → i < n → slice_index places i ≡ i) where
  block_is : (i : ℕ) → i < n → slice_index (replicate n 0) i ≡ 0
  block_is i h = get_or-replicate n i 0 0 h

  one_block : (i : ℕ) → i < n → 0 < k
  one_block i h = elim blocks_are as (λ _. 0 < k) [ inl p ↦ let e = p.0 in absurd (omega arith) | inr p ↦ let e = p.1 in omega arith ]

  only : (b : ℕ) → b < k → (b ≡ 0) × (0 < n)
  only b h = elim blocks_are as (λ _. (b ≡ 0) × (0 < n)) [ inl p ↦ let e = p.1 in absurd (omega arith) | inr p ↦ let e = p.1 in (omega arith, p.0) ]

  first_is : (b : ℕ) → b < k → slice_index (replicate k 0) b ≡ 0
  first_is b h = get_or-replicate k b 0 0 h

  end_is : (b : ℕ) → b < k → slice_index (replicate k n) b ≡ n
  end_is b h = get_or-replicate k b n 0 h

  below_k : (b : ℕ) → b < length (replicate {A = ℕ} k 0) → b < k
  below_k b h = subst (λ m. b < m) (length-replicate k 0) h

  whole_is : ((n ≡ 0) × (k ≡ 0)) ⊎ ((0 < n) × (k ≡ 1)) → sizes (replicate k 0) (replicate k n) ≡ n
  whole_is (inl p) = subst (λ m. sizes (replicate m 0) (replicate m n) ≡ n) (sym p.1) (sym p.0)
  whole_is (inr p) = subst (λ m. sizes (replicate m 0) (replicate m n) ≡ n) (sym p.1) (omega arith)

  flag_below : (b : ℕ) → waits (start n k order places) b ≡ true → b < k
  flag_below b h = elim (cases_lt b k) as (λ _. b < k) [
    | inl l ↦ l
    | inr g ↦ absurd (false≢true (sym (get_or_past (replicate k true) b false (subst (λ m. m ≤ b) (sym (length-replicate k true)) g)) ∙ h))
  ]

  waiting_has : ((n ≡ 0) × (k ≡ 0)) ⊎ ((0 < n) × (k ≡ 1)) → (b : ℕ) → b < k → has (replicate k 0) b ≡ true
  waiting_has (inl p) b h = let e = p.1 in absurd (omega arith)
  waiting_has (inr p) b h = let e = p.1 in let z : b ≡ 0 = omega arith in subst (λ m. has (replicate m 0) b ≡ true) (sym e) (subst (λ x. has (0 ∷ []) x ≡ true) (sym z) refl)

  waiting_below : (b : ℕ) → has (replicate k 0) b ≡ true → b < k
  waiting_below b h =
      let p = place_of (replicate k 0) b h in
      let l : p.0 < k = subst (λ m. p.0 < m) (length-replicate k 0) p.1 in
      let z : b ≡ 0 = sym p.2 ∙ get_or-replicate k p.0 0 0 l in
      omega arith

  pub start_whole : IsWhole n (start n k order places)
  start_whole = record {
    fit = record {
      small = small;
      order_len = order_len;
      places_len = places_len;
      blocks_len = length-replicate n 0;
      middles_len = refl;
      ends_len = length-replicate k n ∙ sym (length-replicate k 0);
      flags_len = length-replicate k true ∙ sym (length-replicate k 0);
      placed = λ i h. (subst (λ x. x < n) (sym (places_at i h)) h, ap (λ x. slice_index order x) (places_at i h) ∙ order_at i h);
      ordered = λ p h. (subst (λ x. x < n) (sym (order_at p h)) h, ap (λ x. slice_index places x) (order_at p h) ∙ places_at p h);
      numbered = λ i h. subst (λ m. m < length (replicate {A = ℕ} k 0)) (sym (block_is i h)) (subst (λ m. 0 < m) (sym (length-replicate k 0)) (one_block i h));
      within = λ i h. subst (λ c. (slice_index (replicate k 0) c ≤ slice_index places i) × (slice_index places i < slice_index (replicate k n) c)) (sym (block_is i h))
          (subst (λ f. f ≤ slice_index places i) (sym (first_is 0 (one_block i h))) (omega arith), subst (λ x. x < slice_index (replicate k n) 0) (sym (places_at i h)) (subst (λ x. i < x) (sym (end_is 0 (one_block i h))) h));
      spans = λ b h. let l = below_k b h in let o = only b l in
          let f = first_is b l in let e = end_is b l in (omega arith, omega arith, omega (arith, o.1), omega arith);
      owned = λ b p h low high. let l = below_k b h in
          let inside : p < n = subst (λ x. p < x) (end_is b l) high in
          ap (λ x. slice_index (replicate n 0) x) (order_at p inside) ∙ block_is p inside ∙ sym (only b l).0;
      whole = whole_is blocks_are;
      listed = λ b h. waiting_has blocks_are b (flag_below b h);
      known = λ b h. subst (λ m. b < m) (sym (length-replicate k 0)) (waiting_below b h);
    };
    calm = λ b h. refl;
    one = λ i j h l. block_is i h ∙ sym (block_is j l);
    waiting = λ i h. ap (λ c. slice_index_or (replicate k true) c false) (block_is i h) ∙ get_or-replicate k 0 true false (one_block i h);
  }
