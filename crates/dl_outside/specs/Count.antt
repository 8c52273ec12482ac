-- Counts of faults and of bytes (`Counts`). A count of faults is kept in 64 bits, and stays at the last value that they hold.
use Rattle.std.specs.Prelude.{ℕ, ◌+◌, ◌-◌, ◌^◌, ◌≤◌, min}
use Rattle.dl_outside.specs.declared.count.Counts.{Counts}

-- One fault more.
abbrev pub one_more : ℕ → ℕ
one_more count = min (count + 1) (2 ^ 64 - 1)

-- A count has risen where it is above what it was before, or stands at its last value.
abbrev pub HasRisen : ℕ → ℕ → Type 0
HasRisen before now = one_more before ≤ now

-- Neither count falls.
pub record NeverFall (before now : Counts) : Type 0 where
  pub faults : before.faults ≤ now.faults
  pub taken : before.taken ≤ now.taken
