-- A block waits: what becomes of the partition.
use Rattle.partitions.proofs.Prelude.{◌≡◌, ℕ, ◌+◌, ◌<◌, ◌≤◌, inl, inr, List, [], ◌∷◌, ◌++◌, length, Bool, true, false, refl, sym, ◌∙◌, subst, arith, slice_index_or, cond_both, length-set, length_push, get_or-set_same, has, State, HasBlocks, waits, with_waiting, has_push_cases}
use Rattle.partitions.proofs.Marking.{has_push, has_more}
use Rattle.partitions.proofs.Writes.{by_write}

-- other blocks wait, and nothing else changes
pub blocks_waiting : (n : ℕ) (s : State) (waiting : List ℕ) (flags : List Bool) → HasBlocks n s → length flags ≡ length s.flags → ((b : ℕ) → slice_index_or flags b false ≡ true → has waiting b ≡ true) → ((b : ℕ) → has waiting b ≡ true → b < length s.firsts) → HasBlocks n (record s { waiting = waiting; flags = flags })
blocks_waiting n s waiting flags good same listed known = record {
  small = good.small;
  order_len = good.order_len;
  places_len = good.places_len;
  blocks_len = good.blocks_len;
  middles_len = good.middles_len;
  ends_len = good.ends_len;
  flags_len = same ∙ good.flags_len;
  placed = good.placed;
  ordered = good.ordered;
  numbered = good.numbered;
  within = good.within;
  spans = good.spans;
  owned = good.owned;
  whole = good.whole;
  listed = listed;
  known = known;
}

module _ (n : ℕ) (s : State) (b : ℕ) (good : HasBlocks n s) (inside : b < length s.firsts) where
  flag_there : b < length s.flags
  flag_there = subst (λ k. b < k) (sym good.flags_len) inside

  -- what waits then, by whether the block did before
  by_waiting : (P : List ℕ → Type 0) → (waits s b ≡ true → P s.waiting) → P (s.waiting ++ b ∷ []) → P (with_waiting s b).waiting
  by_waiting P old new = cond_both (waits s b) s.waiting (s.waiting ++ b ∷ []) P old (λ _. new)

  pub waits_here : waits (with_waiting s b) b ≡ true
  waits_here = get_or-set_same s.flags b true false flag_there

  pub waits_still : (c : ℕ) → waits s c ≡ true → waits (with_waiting s b) c ≡ true
  waits_still c h = by_write s.flags b true c false flag_there (λ v. v ≡ true) (λ _. refl) (λ _. h)

  pub waiting_most : length (with_waiting s b).waiting ≤ length s.waiting + 1
  waiting_most = by_waiting (λ xs. length xs ≤ length s.waiting + 1) (λ _. omega arith) (let e = length_push s.waiting b in omega arith)

  pub blocks_awaited : HasBlocks n (with_waiting s b)
  blocks_awaited = blocks_waiting n s (with_waiting s b).waiting (with_waiting s b).flags good (length-set s.flags b true)
      (λ c. by_write s.flags b true c false flag_there (λ v. v ≡ true → has (with_waiting s b).waiting c ≡ true)
      (λ e _. subst (λ x. has (with_waiting s b).waiting x ≡ true) (sym e) (by_waiting (λ xs. has xs b ≡ true) (λ w. good.listed b w) (has_push s.waiting b)))
      (λ _ w. by_waiting (λ xs. has xs c ≡ true) (λ _. good.listed c w) (has_more s.waiting b c (good.listed c w))))
      (λ c. by_waiting (λ xs. has xs c ≡ true → c < length s.firsts)
      (λ _ h. good.known c h)
      (λ h. elim (has_push_cases s.waiting b c h) as (λ _. c < length s.firsts) [ inl old ↦ good.known c old | inr e ↦ subst (λ x. x < length s.firsts) e inside ]))
