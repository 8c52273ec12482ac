use Rattle.equal_futures.proofs.Prelude.{take, AreGathered}
use Rattle.equal_futures.proofs.splitters.entering_steps.Given as goal

abbrev pub invariant-loop-node : goal.invariant-loop-node
invariant-loop-node l = AreGathered l.rows (take l.node-index l.members) l.steps.items
