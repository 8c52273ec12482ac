-- A node is marked: what becomes of the partition.
use Rattle.partitions.proofs.Prelude.{◌≡◌, ℕ, ◌+◌, ◌<◌, ◌≤◌, length, set, true, false, ◌||◌, nat_eq, nat_lt, refl, sym, ap, ◌∙◌, subst, arith, inl, inr, slice_index, cases_eq, lt-ltb, le-ltb, eq-eqb, ne_eqb, or_right, cases_lt, length-set, State, HasBlocks, block_at, is_marked, with_mark, or_unless}
use Rattle.partitions.proofs.Writes.{by_write, by_two_writes}

module _ (n : ℕ) (s : State) (node : ℕ) (good : HasBlocks n s) (inside : node < n) (unmarked : slice_index s.middles (block_at s node) ≤ slice_index s.places node) where
  abbrev t : State
  t = with_mark s node

  abbrev pub blk : ℕ
  blk = block_at s node

  abbrev pub place : ℕ
  place = slice_index s.places node

  abbrev pub middle : ℕ
  middle = slice_index s.middles blk

  abbrev pub other : ℕ
  other = slice_index s.order middle

  blk_known : blk < length s.firsts
  blk_known = good.numbered node inside

  place_below : place < n
  place_below = (good.placed node inside).0

  place_in_block : place < slice_index s.ends blk
  place_in_block = (good.within node inside).1

  middle_below : middle < n
  middle_below = let p = place_below in let u = unmarked in omega arith

  middle_above : slice_index s.firsts blk ≤ middle
  middle_above = (good.spans blk blk_known).0

  middle_in_block : middle < slice_index s.ends blk
  middle_in_block = let p = place_in_block in let u = unmarked in omega arith

  other_below : other < n
  other_below = (good.ordered middle middle_below).0

  other_place : slice_index s.places other ≡ middle
  other_place = (good.ordered middle middle_below).1

  node_there : slice_index s.order place ≡ node
  node_there = (good.placed node inside).1

  other_block : block_at s other ≡ blk
  other_block = good.owned blk middle blk_known middle_above middle_in_block

  -- what stands where, after the change
  order_then : (q : ℕ) (P : ℕ → Type 0) → (q ≡ middle → P node) → ((q ≡ middle → ⊥) → q ≡ place → P other) → ((q ≡ middle → ⊥) → (q ≡ place → ⊥) → P (slice_index s.order q)) → P (slice_index t.order q)
  order_then q P last first rest =
      (by_two_writes s.order place other middle node q (subst (λ m. place < m) (sym good.order_len) place_below) (subst (λ m. middle < m) (sym good.order_len) middle_below) P last first rest)

  places_then : (x : ℕ) (P : ℕ → Type 0) → (x ≡ node → P middle) → ((x ≡ node → ⊥) → x ≡ other → P place) → ((x ≡ node → ⊥) → (x ≡ other → ⊥) → P (slice_index s.places x)) → P (slice_index t.places x)
  places_then x P last first rest =
      (by_two_writes s.places other place node middle x (subst (λ m. other < m) (sym good.places_len) other_below) (subst (λ m. node < m) (sym good.places_len) inside) P last first rest)

  pub middles_then : (c : ℕ) (P : ℕ → Type 0) → (c ≡ blk → P (middle + 1)) → ((c ≡ blk → ⊥) → P (slice_index s.middles c)) → P (slice_index t.middles c)
  middles_then c P same rest =
      (by_write s.middles blk (middle + 1) c 0 (subst (λ m. blk < m) (sym good.middles_len) blk_known) P same rest)

  -- the same node, where the other one stands at the place of the node
  met : other ≡ node → place ≡ middle
  met e = ap (λ x. slice_index s.places x) (sym e) ∙ other_place

  met_back : place ≡ middle → other ≡ node
  met_back e = ap (λ q. slice_index s.order q) (sym e) ∙ node_there

  placed_then : (x : ℕ) → x < n → (slice_index t.places x < n) × (slice_index t.order (slice_index t.places x) ≡ x)
  placed_then x h =
      places_then x (λ q. (q < n) × (slice_index t.order q ≡ x))
      (λ e. (middle_below, order_then middle (λ y. y ≡ x) (λ _. sym e) (λ no _. absurd (no refl)) (λ no _. absurd (no refl))))
      (λ ne e. (place_below, order_then place (λ y. y ≡ x) (λ is. absurd (ne (e ∙ met_back is))) (λ _ _. sym e) (λ _ no. absurd (no refl))))
      (λ ne ne'. let p = good.placed x h in (
        p.0,
        order_then (slice_index s.places x) (λ y. y ≡ x)
            (λ is. absurd (ne' (sym p.1 ∙ ap (λ q. slice_index s.order q) is)))
            (λ _ is. absurd (ne (sym p.1 ∙ ap (λ q. slice_index s.order q) is ∙ node_there)))
            (λ _ _. p.1),
      ))

  ordered_then : (q : ℕ) → q < n → (slice_index t.order q < n) × (slice_index t.places (slice_index t.order q) ≡ q)
  ordered_then q h =
      order_then q (λ x. (x < n) × (slice_index t.places x ≡ q))
      (λ e. (inside, places_then node (λ y. y ≡ q) (λ _. sym e) (λ no _. absurd (no refl)) (λ no _. absurd (no refl))))
      (λ ne e. (other_below, places_then other (λ y. y ≡ q) (λ is. absurd (ne (e ∙ met is))) (λ _ _. sym e) (λ _ no. absurd (no refl))))
      (λ ne ne'. let p = good.ordered q h in (
        p.0,
        places_then (slice_index s.order q) (λ y. y ≡ q)
            (λ is. absurd (ne' (sym p.1 ∙ ap (λ x. slice_index s.places x) is)))
            (λ _ is. absurd (ne (sym p.1 ∙ ap (λ x. slice_index s.places x) is ∙ other_place)))
            (λ _ _. p.1),
      ))

  within_then : (x : ℕ) → x < n → (slice_index s.firsts (block_at s x) ≤ slice_index t.places x) × (slice_index t.places x < slice_index s.ends (block_at s x))
  within_then x h =
      places_then x (λ q. (slice_index s.firsts (block_at s x) ≤ q) × (q < slice_index s.ends (block_at s x)))
      (λ e. subst (λ y. (slice_index s.firsts (block_at s y) ≤ middle) × (middle < slice_index s.ends (block_at s y))) (sym e) (middle_above, middle_in_block))
      (λ _ e. subst (λ c. (slice_index s.firsts c ≤ place) × (place < slice_index s.ends c)) (sym (ap (λ y. block_at s y) e ∙ other_block)) (good.within node inside))
      (λ _ _. good.within x h)

  spans_then : (c : ℕ) → c < length s.firsts → (slice_index s.firsts c ≤ slice_index t.middles c) × (slice_index t.middles c ≤ slice_index s.ends c) × (slice_index s.firsts c < slice_index s.ends c) × (slice_index s.ends c ≤ n)
  spans_then c h =
      middles_then c (λ m. (slice_index s.firsts c ≤ m) × (m ≤ slice_index s.ends c) × (slice_index s.firsts c < slice_index s.ends c) × (slice_index s.ends c ≤ n))
      (λ e. let p = good.spans c h in
      subst (λ d. (slice_index s.firsts d ≤ middle + 1) × (middle + 1 ≤ slice_index s.ends d) × (slice_index s.firsts d < slice_index s.ends d) × (slice_index s.ends d ≤ n)) (sym e)
      (let q = good.spans blk blk_known in let u = middle_above in let v = middle_in_block in (omega arith, omega arith, q.2, q.3)))
      (λ _. good.spans c h)

  owned_then : (c q : ℕ) → c < length s.firsts → slice_index s.firsts c ≤ q → q < slice_index s.ends c → block_at s (slice_index t.order q) ≡ c
  owned_then c q h l m =
      let before = good.owned c q h l m in
      order_then q (λ x. block_at s x ≡ c)
      (λ e. sym other_block ∙ ap (λ r. block_at s (slice_index s.order r)) (sym e) ∙ before)
      (λ _ e. other_block ∙ ap (λ x. block_at s x) (sym node_there) ∙ ap (λ r. block_at s (slice_index s.order r)) (sym e) ∙ before)
      (λ _ _. before)

  pub blocks_advanced : HasBlocks n t
  blocks_advanced = record {
    small = good.small;
    order_len = length-set (set s.order place other) middle node ∙ length-set s.order place other ∙ good.order_len;
    places_len = length-set (set s.places other place) node middle ∙ length-set s.places other place ∙ good.places_len;
    blocks_len = good.blocks_len;
    middles_len = length-set s.middles blk (middle + 1) ∙ good.middles_len;
    ends_len = good.ends_len;
    flags_len = good.flags_len;
    placed = placed_then;
    ordered = ordered_then;
    numbered = good.numbered;
    within = within_then;
    spans = spans_then;
    owned = owned_then;
    whole = good.whole;
    listed = good.listed;
    known = good.known;
  }

  -- the node is marked then, and no other one is that was not before
  marked_here : is_marked t node ≡ true
  marked_here = lt-ltb (slice_index t.places node) (slice_index t.middles (block_at t node))
      (places_then node (λ q. q < slice_index t.middles blk) (λ _. middles_then blk (λ m. middle < m) (λ _. omega arith) (λ no. absurd (no refl))) (λ no _. absurd (no refl)) (λ no _. absurd (no refl)))

  unmarked_other : (x : ℕ) → (x ≡ node → ⊥) → x ≡ other → nat_lt (slice_index t.places x) (slice_index t.middles (block_at s x)) ≡ nat_lt (slice_index s.places x) (slice_index s.middles (block_at s x))
  unmarked_other x ne e =
      let in_block : block_at s x ≡ blk = ap (λ y. block_at s y) e ∙ other_block in
      let apart : place ≡ middle → ⊥ = λ is. ne (e ∙ met_back is) in
      let then : nat_lt (slice_index t.places x) (slice_index t.middles (block_at s x)) ≡ false =
      le-ltb (slice_index t.places x) (slice_index t.middles (block_at s x))
      (subst (λ c. slice_index t.middles c ≤ slice_index t.places x) (sym in_block)
      (middles_then blk (λ m. m ≤ slice_index t.places x) (λ _. places_then x (λ q. middle + 1 ≤ q) (λ is. absurd (ne is)) (λ _ _. let u = unmarked in omega (arith, apart)) (λ _ no. absurd (no e))) (λ no. absurd (no refl)))) in
      let before : nat_lt (slice_index s.places x) (slice_index s.middles (block_at s x)) ≡ false =
      le-ltb (slice_index s.places x) (slice_index s.middles (block_at s x))
      (subst (λ c. slice_index s.middles c ≤ slice_index s.places x) (sym in_block)
      (subst (λ q. middle ≤ q) (sym (ap (λ y. slice_index s.places y) e ∙ other_place)) (omega arith))) in
      then ∙ sym before

  lt_step : (q m : ℕ) → (q ≡ m → ⊥) → nat_lt q (m + 1) ≡ nat_lt q m
  lt_step q m ne = elim (cases_lt q m) as (λ _. nat_lt q (m + 1) ≡ nat_lt q m) [
    | inl l ↦ lt-ltb q (m + 1) (omega arith) ∙ sym (lt-ltb q m l)
    | inr g ↦ le-ltb q (m + 1) (omega (arith, ne)) ∙ sym (le-ltb q m g)
  ]

  marked_rest : (x : ℕ) → x < n → (x ≡ node → ⊥) → (x ≡ other → ⊥) → nat_lt (slice_index s.places x) (slice_index t.middles (block_at s x)) ≡ nat_lt (slice_index s.places x) (slice_index s.middles (block_at s x))
  marked_rest x h ne ne' =
      middles_then (block_at s x) (λ m. nat_lt (slice_index s.places x) m ≡ nat_lt (slice_index s.places x) (slice_index s.middles (block_at s x)))
      (λ e. lt_step (slice_index s.places x) middle (λ is. ne' (sym (good.placed x h).1 ∙ ap (λ q. slice_index s.order q) is)) ∙ sym (ap (λ b. nat_lt (slice_index s.places x) (slice_index s.middles b)) e))
      (λ _. refl)

  pub marked_advanced : (x : ℕ) → x < n → is_marked t x ≡ (is_marked s x || nat_eq x node)
  marked_advanced x h = elim (cases_eq x node) as (λ _. is_marked t x ≡ (is_marked s x || nat_eq x node)) [
    | inl e ↦ ap (λ y. is_marked t y) e ∙ marked_here ∙ sym (or_right (is_marked s x) (nat_eq x node) (eq-eqb x node e))
    | inr ne ↦
        elim (cases_eq x other) as (λ _. nat_lt (slice_index t.places x) (slice_index t.middles (block_at s x)) ≡ is_marked s x) [
          | inl e ↦ unmarked_other x ne e
          | inr ne' ↦ places_then x (λ q. nat_lt q (slice_index t.middles (block_at s x)) ≡ is_marked s x) (λ is. absurd (ne is)) (λ _ is. absurd (ne' is)) (λ _ _. marked_rest x h ne ne')
        ]
        ∙ sym (or_unless (is_marked s x) (nat_eq x node) (ne_eqb x node ne))
  ]
