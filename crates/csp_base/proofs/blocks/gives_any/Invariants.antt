use Rattle.std.proofs.Common.{[], length}
use Rattle.csp_base.proofs.MergeSteps.{IsMerging}
use Rattle.csp_base.proofs.blocks.gives_any.Given as goal

abbrev pub invariant-loop-first : goal.invariant-loop-first
invariant-loop-first l = IsMerging l.operation l.left l.right [] l.first l.second

abbrev pub decreases-loop-first : goal.decreases-loop-first
decreases-loop-first l = length l.first
