-- Splits by marks and by blocks, for the contracts of this crate's own functions.
use Rattle.std.specs.Prelude.{◌≡◌, ◌↔◌, ◌<◌, ℕ, List, [], IsTrue, length, slice_index_or}
use Rattle.csp_base.specs.Members.{has}
use Rattle.equal_futures.specs.Arrows.{IsSplitByEvents, AreMarkSteps, AreGathered, has_arrow}
use Rattle.partitions.specs.Blocks.{State, block_at}

-- the steps in the rows lead from nodes below n
abbrev pub AreAllFrom : ℕ → List (List (ℕ × ℕ)) → Type 0
AreAllFrom n rows = (t e i : ℕ) → t < length rows → IsTrue (has_arrow (slice_index_or rows t []) e i) → i < n

-- The blocks are split by steps of which each node has one, by its mark.
pub record IsSplitByMarks (n : ℕ) (old new : State) (marks : List ℕ) : Type 0 where
  pub steps : List (ℕ × ℕ)
  pub exact : AreMarkSteps marks steps
  pub split : IsSplitByEvents n old new steps

-- The blocks are split by the steps that stand in the rows of the members of a block.
pub record IsSplitByBlock (n : ℕ) (old new : State) (rows : List (List (ℕ × ℕ))) (b : ℕ) : Type 0 where
  pub members : List ℕ
  pub steps : List (ℕ × ℕ)
  pub exact : (i : ℕ) → IsTrue (has members i) ↔ ((i < n) × (block_at old i ≡ b))
  pub gathered : AreGathered rows members steps
  pub split : IsSplitByEvents n old new steps
