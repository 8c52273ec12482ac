-- A division, as the code reads and writes it.
use Rattle.partitions.proofs.Prelude.{◌≡◌, ℕ, ◌<◌, ◌≤◌, [], ◌∷◌, ◌++◌, length, set, get_or, false, sym, ap, ◌∙◌, subst, slice_index, get_or_read, State, HasBlocks, block_at, IsDivided}

pub divided_from : (n : ℕ) (s t : State) (b f m x : ℕ) → HasBlocks n s → b < length s.firsts → f ≡ get_or s.firsts b f → m ≡ get_or s.middles b m → x ≡ length s.firsts
    → t.order ≡ s.order → t.places ≡ s.places → t.waiting ≡ s.waiting → t.firsts ≡ set s.firsts b m ++ f ∷ [] → t.middles ≡ s.middles ++ f ∷ [] → t.ends ≡ s.ends ++ m ∷ [] → t.flags ≡ s.flags ++ false ∷ [] → length t.blocks ≡ length s.blocks
    → ((k : ℕ) → f ≤ k → k < m → block_at t (slice_index s.order k) ≡ x)
    → ((i : ℕ) → ((k : ℕ) → f ≤ k → k < m → slice_index s.order k ≡ i → ⊥) → block_at t i ≡ block_at s i)
    → IsDivided s t b
divided_from n s t b f m x good inside read_f read_m is_x order places waiting firsts middles ends flags blocks moved kept =
    let first : f ≡ slice_index s.firsts b = get_or_read s.firsts b f inside read_f 0 in
    let middle : m ≡ slice_index s.middles b = get_or_read s.middles b m (subst (λ k. b < k) (sym good.middles_len) inside) read_m 0 in
    record {
      order = order;
      places = places;
      firsts = firsts ∙ ap (λ y. set s.firsts b y ++ f ∷ []) middle ∙ ap (λ y. set s.firsts b (slice_index s.middles b) ++ y ∷ []) first;
      middles = middles ∙ ap (λ y. s.middles ++ y ∷ []) first;
      ends = ends ∙ ap (λ y. s.ends ++ y ∷ []) middle;
      waiting = waiting;
      flags = flags;
      blocks_len = blocks;
      moved = λ k low high. moved k (subst (λ y. y ≤ k) (sym first) low) (subst (λ y. k < y) (sym middle) high) ∙ is_x;
      kept = λ i apart. kept i (λ k low high. apart k (subst (λ y. y ≤ k) first low) (subst (λ y. k < y) middle high));
    }
