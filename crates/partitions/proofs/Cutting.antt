-- A block is cut: nodes are together then exactly where they were.
use Rattle.partitions.proofs.Prelude.{◌≡◌, ℕ, ◌+◌, ◌<◌, ◌⊎◌, inl, inr, List, length, true, false, sym, ap, ◌∙◌, subst, arith, slice_index, ◌↔◌, false≢true, State, HasBlocks, IsCut, AreTogether, AreBoth, block_at, waits, IsDivided, with_waiting, Bool}
use Rattle.std.proofs.lemmas.Bool.{both_ways, false_from_ne_true}
use Rattle.partitions.proofs.Sizes.{few_blocks}
use Rattle.partitions.proofs.Awaiting.{blocks_awaited, waits_here, waits_still, waiting_most}
use Rattle.partitions.proofs.Dividing.{blocks_divided, fate, left_then, same_waits, one_more, Fate, moves, stays, outside}

together_fates : (s t : State) (b new i j : ℕ) → b < new → Fate s t b new i → Fate s t b new j → AreTogether t i j ↔ AreTogether s i j
together_fates s t b new i j low (moves p q r u) (moves p' q' r' u') = (λ _. (p ∙ sym p', r ∙ sym r'), λ _. (q ∙ sym q', u ∙ sym u'))
together_fates s t b new i j low (moves p q r u) (stays p' q' r' u') =
    (λ h. let e : new ≡ b = sym q ∙ h.0 ∙ q' in absurd (omega arith), λ h. absurd (false≢true (sym r' ∙ sym h.1 ∙ r)))
together_fates s t b new i j low (moves p q r u) (outside p' q' r' u') =
    (λ h. let e : new ≡ block_at s j = sym q ∙ h.0 ∙ q' in absurd (omega arith), λ h. absurd (p' (sym h.0 ∙ p)))
together_fates s t b new i j low (stays p q r u) (moves p' q' r' u') =
    (λ h. let e : new ≡ b = sym q' ∙ sym h.0 ∙ q in absurd (omega arith), λ h. absurd (false≢true (sym r ∙ h.1 ∙ r')))
together_fates s t b new i j low (stays p q r u) (stays p' q' r' u') = (λ _. (p ∙ sym p', r ∙ sym r'), λ _. (q ∙ sym q', u ∙ sym u'))
together_fates s t b new i j low (stays p q r u) (outside p' q' r' u') =
    (λ h. absurd (p' (sym q' ∙ sym h.0 ∙ q)), λ h. absurd (p' (sym h.0 ∙ p)))
together_fates s t b new i j low (outside p q r u) (moves p' q' r' u') =
    (λ h. let e : new ≡ block_at s i = sym q' ∙ sym h.0 ∙ q in absurd (omega arith), λ h. absurd (p (h.0 ∙ p')))
together_fates s t b new i j low (outside p q r u) (stays p' q' r' u') =
    (λ h. absurd (p (sym q ∙ h.0 ∙ q')), λ h. absurd (p (h.0 ∙ p')))
together_fates s t b new i j low (outside p q r u) (outside p' q' r' u') =
    (λ h. (sym q ∙ h.0 ∙ q', sym u ∙ h.1 ∙ u'), λ h. (q ∙ h.0 ∙ sym q', u ∙ h.1 ∙ sym u'))

not_moved : (s t : State) (b new : ℕ) (i : ℕ) → Fate s t b new i → (block_at s i ≡ b → ⊥) → block_at t i ≡ block_at s i
not_moved s t b new i (moves p q r u) h = absurd (h p)
not_moved s t b new i (stays p q r u) h = absurd (h p)
not_moved s t b new i (outside p q r u) h = q

not_there : (s t : State) (b new : ℕ) (waiting : ℕ → Bool) → ((c : ℕ) → (c ≡ b) ⊎ (c ≡ new) → waiting c ≡ true) → (i : ℕ) → Fate s t b new i → waiting (block_at t i) ≡ false → block_at s i ≡ b → ⊥
not_there s t b new waiting both i (moves p q r u) h e = both_ways (waiting (block_at t i)) h (both (block_at t i) (inr q))
not_there s t b new waiting both i (stays p q r u) h e = both_ways (waiting (block_at t i)) h (both (block_at t i) (inl q))
not_there s t b new waiting both i (outside p q r u) h e = p e

-- the block is divided into itself and the last one, and then x and y wait, which are these two
module _ (n : ℕ) (s t : State) (b x y : ℕ) (good : HasBlocks n s) (inside : b < length s.firsts) (some : slice_index s.firsts b < slice_index s.middles b) (not_all : slice_index s.middles b < slice_index s.ends b) (d : IsDivided s t b) (are : AreBoth b (length s.firsts) x y) where
  abbrev u : State
  u = with_waiting t x

  abbrev v : State
  v = with_waiting u y

  good_t : HasBlocks n t
  good_t = blocks_divided n s t b good inside some not_all d

  longer : length t.firsts ≡ length s.firsts + 1
  longer = one_more n s t b good inside some not_all d

  x_known : x < length t.firsts
  x_known = elim are as (λ _. x < length t.firsts) [ inl p ↦ let e = p.0 in let l = longer in omega arith | inr p ↦ let e = p.0 in let l = longer in omega arith ]

  y_known : y < length t.firsts
  y_known = elim are as (λ _. y < length t.firsts) [ inl p ↦ let e = p.1 in let l = longer in omega arith | inr p ↦ let e = p.1 in let l = longer in omega arith ]

  good_u : HasBlocks n u
  good_u = blocks_awaited n t x good_t x_known

  waits_x : waits v x ≡ true
  waits_x = waits_still n u y good_u y_known x (waits_here n t x good_t x_known)

  waits_y : waits v y ≡ true
  waits_y = waits_here n u y good_u y_known

  both : (c : ℕ) → (c ≡ b) ⊎ (c ≡ length s.firsts) → waits v c ≡ true
  both c h = elim are as (λ _. waits v c ≡ true) [
    | inl p ↦ elim h as (λ _. waits v c ≡ true) [ inl e ↦ subst (λ z. waits v z ≡ true) (p.0 ∙ sym e) waits_x | inr e ↦ subst (λ z. waits v z ≡ true) (p.1 ∙ sym e) waits_y ]
    | inr p ↦ elim h as (λ _. waits v c ≡ true) [ inl e ↦ subst (λ z. waits v z ≡ true) (p.1 ∙ sym e) waits_y | inr e ↦ subst (λ z. waits v z ≡ true) (p.0 ∙ sym e) waits_x ]
  ]

  fates : (i : ℕ) → i < n → Fate s t b (length s.firsts) i
  fates i h = fate n s t b good inside some not_all d i h

  -- a block that waited before still does
  waits_before : (c : ℕ) → waits s c ≡ true → waits v c ≡ true
  waits_before c h = waits_still n u y good_u y_known c (waits_still n t x good_t x_known c (same_waits n s t b good inside some not_all d c ∙ h))

  pub cut_divided : IsCut n s v b
  cut_divided = record {
    fit = blocks_awaited n u y good_u y_known;
    together = λ i j h l. together_fates s t b (length s.firsts) i j inside (fates i h) (fates j l);
    left = left_then n s t b good inside some not_all d;
    more = let l = longer in omega arith;
    onward = record {
      less =
          let f = few_blocks n t good_t in
          let l = longer in
          let q = waiting_most n t x good_t x_known in
          let r = waiting_most n u y good_u y_known in
          let w : length t.waiting ≡ length s.waiting = ap (λ (xs : List ℕ). length xs) d.waiting in
          omega arith;
      kept = λ i h w.
          let away = not_there s t b (length s.firsts) (waits v) both i (fates i h) w in
          let same = not_moved s t b (length s.firsts) i (fates i h) away in (
            false_from_ne_true (waits s (block_at s i)) (λ e. both_ways (waits v (block_at t i)) w (subst (λ c. waits v c ≡ true) (sym same) (waits_before (block_at s i) e))),
            λ j k e. not_moved s t b (length s.firsts) j (fates j k) (λ f. away (sym e ∙ f)) ∙ e ∙ sym same,
          );
    };
  }
