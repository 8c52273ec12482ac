use Rattle.cyclic_conditions.specs.Shorts.{AreShorts, Before}
use Rattle.cyclic_conditions.proofs.shorts.mark_node.Given as goal

abbrev pub invariant-loop-place : goal.invariant-loop-place
invariant-loop-place l = AreShorts l.component.shape.now (Before l.component.number l.node l.place) l.shorts
