use Rattle.equal_futures.proofs.Prelude.{length, state_of, work}
use Rattle.equal_futures.proofs.Settling.{IsRefined}
use Rattle.equal_futures.proofs.splitters.refine.Given as goal

abbrev pub invariant-loop-block : goal.invariant-loop-block
invariant-loop-block l = IsRefined l.nodes l.marks (state_of l.partition)

abbrev pub decreases-loop-block : goal.decreases-loop-block
decreases-loop-block l = work (length l.nodes) (state_of l.partition)
