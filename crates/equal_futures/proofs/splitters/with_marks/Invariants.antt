use Rattle.equal_futures.proofs.Prelude.{take, AreMarkSteps}
use Rattle.equal_futures.proofs.splitters.with_marks.Given as goal

abbrev pub invariant-loop-node : goal.invariant-loop-node
invariant-loop-node l = AreMarkSteps (take l.node l.marks) l.steps.items
