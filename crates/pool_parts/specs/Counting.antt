-- Counting that stops at 4,294,967,295.
use Rattle.std.specs.Prelude.{ℕ, min}

abbrev pub capped : ℕ → ℕ
capped n = min n 4294967295
