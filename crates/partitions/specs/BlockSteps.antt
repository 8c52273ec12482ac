-- Single steps on a partition, as the code makes them.
use Rattle.std.specs.Prelude.{◌≡◌, ◌+◌, ◌<◌, ◌≤◌, ℕ, List, [], ◌∷◌, ◌++◌, true, false, length, slice_index, slice_set, if◌then◌else◌}
use Rattle.partitions.specs.Blocks.{State, HaveSameBlocks, block_at, waits}

-- a block without marks between two places more, as the lists tell where blocks have their nodes
abbrev pub with_span : State → ℕ → ℕ → State
with_span s first end = record s { firsts = s.firsts ++ first ∷ []; middles = s.middles ++ first ∷ []; ends = s.ends ++ end ∷ [] }

-- the same, and that it doesn't wait
abbrev pub with_block : State → ℕ → ℕ → State
with_block s first end = record (with_span s first end) { flags = s.flags ++ false ∷ [] }

-- the node with the first one of its block that isn't marked in its place, and marked
abbrev pub with_mark : State → ℕ → State
with_mark s node = record s {
  order = slice_set (slice_set s.order (slice_index s.places node) (slice_index s.order (slice_index s.middles (block_at s node)))) (slice_index s.middles (block_at s node)) node;
  places = slice_set (slice_set s.places (slice_index s.order (slice_index s.middles (block_at s node))) (slice_index s.places node)) node (slice_index s.middles (block_at s node));
  middles = slice_set s.middles (block_at s node) (slice_index s.middles (block_at s node) + 1);
}

-- the block waits
abbrev pub with_waiting : State → ℕ → State
with_waiting s b = record s { flags = slice_set s.flags b true; waiting = if waits s b then s.waiting else s.waiting ++ b ∷ [] }

-- The marked nodes of the block, which are not all, are a block of their own, the last one, and nothing else changes.
pub record IsDivided (old new : State) (b : ℕ) : Type 0 where
  pub order : new.order ≡ old.order
  pub places : new.places ≡ old.places
  pub firsts : new.firsts ≡ slice_set old.firsts b (slice_index old.middles b) ++ slice_index old.firsts b ∷ []
  pub middles : new.middles ≡ old.middles ++ slice_index old.firsts b ∷ []
  pub ends : new.ends ≡ old.ends ++ slice_index old.middles b ∷ []
  pub waiting : new.waiting ≡ old.waiting
  pub flags : new.flags ≡ old.flags ++ false ∷ []
  pub blocks_len : length new.blocks ≡ length old.blocks
  pub moved : (k : ℕ) → slice_index old.firsts b ≤ k → k < slice_index old.middles b → block_at new (slice_index old.order k) ≡ length old.firsts
  pub kept : (i : ℕ) → ((k : ℕ) → slice_index old.firsts b ≤ k → k < slice_index old.middles b → slice_index old.order k ≡ i → ⊥) → block_at new i ≡ block_at old i

-- The block has no marks then, and nothing else changes.
pub record IsCalmed (old new : State) (b : ℕ) : Type 0 where
  pub order : new.order ≡ old.order
  pub places : new.places ≡ old.places
  pub middles : new.middles ≡ slice_set old.middles b (slice_index old.firsts b)
  pub same : HaveSameBlocks old new
