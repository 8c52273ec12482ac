use Rattle.cyclic_conditions.specs.Shorts.{AreShorts, Before}
use Rattle.cyclic_conditions.proofs.shorts.mark_component.Given as goal

abbrev pub invariant-loop-node : goal.invariant-loop-node
invariant-loop-node l = AreShorts l.component.shape.now (Before l.component.number l.node 0) l.shorts
