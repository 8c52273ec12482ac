use Rattle.comparison.proofs.Prelude.{◌<◌, ℕ, AgreeAt}
use Rattle.comparison.proofs.events.first_other.Given as goal

abbrev pub invariant-loop-number : goal.invariant-loop-number
invariant-loop-number l = (k : ℕ) → k < l.number → AgreeAt l.program l.other k
