use Rattle.cyclic_conditions.specs.Shorts.{AreShorts, Before}
use Rattle.cyclic_conditions.proofs.shorts.mark_all.Given as goal

abbrev pub invariant-loop-part : goal.invariant-loop-part
invariant-loop-part l = AreShorts l.sorted (Before l.part 0 0) l.shorts
