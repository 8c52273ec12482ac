use Rattle.std.proofs.Common.{◌≡◌, ℕ, ◌<◌, length, get_or}
use Rattle.partitions.proofs.partition.numbers_below.Given as goal

abbrev pub invariant-loop-number : goal.invariant-loop-number
invariant-loop-number l = record { len : length l.made.items ≡ l.number; each : (i : ℕ) → i < l.number → get_or l.made.items i 0 ≡ i }
