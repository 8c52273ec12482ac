-- A reading within limits settles where it answers the same from some number of calls on.
use Rattle.std.specs.Prelude.{◌≡◌, ℕ, ◌≤◌, Option}
use Rattle.tree_reading.specs.Limited.{Limited, limited}

pub record Settles {A : Type 0} (F : Limited → Option A) (answer : Option A) : Type 0 where
  pub enough : ℕ
  pub settles : (f : ℕ) → enough ≤ f → F (limited f) ≡ answer
