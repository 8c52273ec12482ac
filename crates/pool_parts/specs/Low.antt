-- Numbers below which no name is read.
use Rattle.std.specs.Prelude.{◌≡◌, ℕ, ◌≤◌, true}
use Rattle.csp_program.specs.Free.{Names}

-- each of the names is the number or above it
unfoldable pub IsLow : ℕ → Names → Type 0
IsLow least free = (x : ℕ) → free x ≡ true → least ≤ x
