use Rattle.comparison.proofs.Prelude.{◌≡◌, ◌<◌, ℕ, slice_get, alphabets}
use Rattle.comparison.proofs.alphabets.first_other.Given as goal

abbrev pub invariant-loop-component : goal.invariant-loop-component
invariant-loop-component l = (k : ℕ) → k < l.component → slice_get (alphabets l.seats) k ≡ slice_get (alphabets l.others) k
