use Rattle.cyclic_conditions.proofs.Prelude.{ℕ, ◌<◌, HasWholeEnd}
use Rattle.cyclic_conditions.proofs.whole.check_ends.Given as goal

abbrev pub invariant-loop-link : goal.invariant-loop-link
invariant-loop-link l = (m : ℕ) → m < l.link → HasWholeEnd l.sorted m
