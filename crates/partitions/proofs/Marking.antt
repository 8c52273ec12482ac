-- A node is marked, or was marked before: what is known then.
use Rattle.partitions.proofs.Prelude.{◌≡◌, ℕ, ◌+◌, ◌<◌, ◌≤◌, List, [], ◌∷◌, ◌++◌, length, get_or, ◌^◌, true, false, ◌||◌, nat_eq, refl, sym, ap, ◌∙◌, subst, arith, inl, inr, slice_index, eq-eqb, or_left, or_right, get_or_read, list_any-append, has, State, HasBlocks, IsMarked, AreTouched, block_at, with_mark, has_push_cases}
use Rattle.partitions.proofs.Advancing.{blocks_advanced, marked_advanced, middles_then}

pub has_push : (xs : List ℕ) (x : ℕ) → has (xs ++ x ∷ []) x ≡ true
has_push xs x = list_any-append (λ y. nat_eq y x) xs (x ∷ []) ∙ or_right (has xs x) (nat_eq x x || false) (or_left (nat_eq x x) false (eq-eqb x x refl))

pub has_more : (xs : List ℕ) (x y : ℕ) → has xs y ≡ true → has (xs ++ x ∷ []) y ≡ true
has_more xs x y h = list_any-append (λ z. nat_eq z y) xs (x ∷ []) ∙ or_left (has xs y) (nat_eq x y || false) h

module _ (n : ℕ) (s : State) (node : ℕ) (good : HasBlocks n s) (inside : node < n) (unmarked : slice_index s.middles (block_at s node) ≤ slice_index s.places node) where
  pub marked_now : IsMarked n s (with_mark s node) node
  marked_now = record {
    fit = blocks_advanced n s node good inside unmarked;
    same = record { blocks = refl; firsts = refl; ends = refl; waiting = refl; flags = refl };
    marked = marked_advanced n s node good inside unmarked;
  }

  -- the block is among those with marked nodes
  pub touched_now : (touched : List ℕ) → ((b : ℕ) → b < length s.firsts → slice_index s.firsts b < slice_index s.middles b → has touched b ≡ true) → ((b : ℕ) → has touched b ≡ true → b < length s.firsts) → has touched (block_at s node) ≡ true → AreTouched (with_mark s node) touched
  touched_now touched all known here = record {
    all = λ b h. middles_then n s node good inside unmarked b (λ m. slice_index s.firsts b < m → has touched b ≡ true) (λ e _. ap (λ c. has touched c) e ∙ here) (λ _ l. all b h l);
    known = known;
  }

  -- where marked nodes were in the block before
  pub touched_again : (touched : List ℕ) → AreTouched s touched → (slice_index s.middles (block_at s node) ≡ slice_index s.firsts (block_at s node) → ⊥) → AreTouched (with_mark s node) touched
  touched_again touched old other =
      let p = good.spans (block_at s node) (good.numbered node inside) in
      touched_now touched old.all old.known (old.all (block_at s node) (good.numbered node inside) (omega (arith, p.0, other)))

  -- where the block is listed now
  pub touched_new : (touched : List ℕ) → AreTouched s touched → AreTouched (with_mark s node) (touched ++ block_at s node ∷ [])
  touched_new touched old =
      touched_now (touched ++ block_at s node ∷ [])
      (λ b h l. has_more touched (block_at s node) b (old.all b h l))
      (λ b h. elim (has_push_cases touched (block_at s node) b h) as (λ _. b < length s.firsts) [ inl before ↦ old.known b before | inr e ↦ subst (λ c. c < length s.firsts) e (good.numbered node inside) ])
      (has_push touched (block_at s node))

-- What the code reads for the node: its block b, its place p, where the marked nodes of the block end, m, and where it begins, f.
module _ (n : ℕ) (s : State) (node b m p : ℕ) (good : HasBlocks n s) (inside : node < n) (read_b : b ≡ get_or s.blocks node b) (read_m : m ≡ get_or s.middles b m) (read_p : p ≡ get_or s.places node p) where
  pub block_read : b ≡ block_at s node
  block_read = get_or_read s.blocks node b (subst (λ k. node < k) (sym good.blocks_len) inside) read_b 0

  known : b < length s.firsts
  known = subst (λ c. c < length s.firsts) (sym block_read) (good.numbered node inside)

  middle_read : m ≡ slice_index s.middles (block_at s node)
  middle_read = get_or_read s.middles b m (subst (λ k. b < k) (sym good.middles_len) known) read_m 0 ∙ ap (λ c. slice_index s.middles c) block_read

  place_read : p ≡ slice_index s.places node
  place_read = get_or_read s.places node p (subst (λ k. node < k) (sym good.places_len) inside) read_p 0

  pub unmarked_read : m ≤ p → slice_index s.middles (block_at s node) ≤ slice_index s.places node
  unmarked_read h = subst (λ x. x ≤ slice_index s.places node) middle_read (subst (λ x. m ≤ x) place_read h)

  pub other_read : (f : ℕ) → f ≡ get_or s.firsts b f → (m ≡ f → ⊥) → slice_index s.middles (block_at s node) ≡ slice_index s.firsts (block_at s node) → ⊥
  other_read f read_f ne e = ne (middle_read ∙ e ∙ sym (get_or_read s.firsts b f known read_f 0 ∙ ap (λ c. slice_index s.firsts c) block_read))

  pub middle_fits : slice_index s.middles (block_at s node) ≤ slice_index s.places node → m + 1 < 2 ^ 32
  middle_fits h = let q = (good.placed node inside).0 in let k = good.small in let e = middle_read in omega arith
