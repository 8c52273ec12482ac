use Rattle.std.proofs.Common.{◌<◌, ℕ, List}
use Rattle.resource_conditions.proofs.checking.check.Given as goal

abbrev pub invariant-loop-part : goal.invariant-loop-part
invariant-loop-part g l = (j : ℕ) (t : List ℕ) → j < l.part → g.D.Decider.keeps l.decider j t
