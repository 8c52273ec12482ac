-- How many marks each block of 64 has. (For private contracts: no public one cites this.)
use Rattle.std.specs.Prelude.{◌≡◌, ℕ, ◌+◌, ◌*◌, ◌≤◌, Bool, List, length, take, slice_index}
use Rattle.numbered_walks.specs.Marks.{mark_count}

-- the counts of the blocks are enough for all marks, and each is that of its block
pub record AreBlockCounts (marks : List Bool) (counts : List ℕ) : Type 0 where
  pub cover : length marks ≤ 64 * length counts
  pub each : (b : ℕ) → mark_count (take (64 * b) marks) + slice_index counts b ≡ mark_count (take (64 * (b + 1)) marks)
