use Rattle.std.proofs.Common.{◌+◌, length}
use Rattle.csp_base.proofs.MergeSteps.{IsMerging}
use Rattle.csp_base.proofs.blocks.merge_blocks.Given as goal

abbrev pub invariant-loop-first : goal.invariant-loop-first
invariant-loop-first l = IsMerging l.operation l.left l.right l.made.items l.first l.second

abbrev pub decreases-loop-first : goal.decreases-loop-first
decreases-loop-first l = length l.first + length l.second
