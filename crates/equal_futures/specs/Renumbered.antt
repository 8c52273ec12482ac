-- Blocks numbered anew, in the order in which they are first seen.
use Rattle.std.specs.Prelude.{◌≡◌, ◌↔◌, ◌<◌, ℕ, List, length, slice_index}
use Rattle.equal_futures.specs.Future.{SeenInOrder}

-- Two places have one of the new numbers exactly where they had one before.
pub record AreRenumbered (old new : List ℕ) (count : ℕ) : Type 0 where
  pub one_each : length new ≡ length old
  pub exact : (i j : ℕ) → i < length old → j < length old → (slice_index new i ≡ slice_index new j) ↔ (slice_index old i ≡ slice_index old j)
  pub order : SeenInOrder 0 new count
