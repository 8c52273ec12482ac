use Rattle.std.proofs.Common.{arith}
use Rattle.partitions.proofs.partition.assign.Goals as goal

pub returns-clause-kept : goal.returns-clause-kept
returns-clause-kept c i apart = c.loop-place.invariant.kept i (λ k low high. apart k low (omega arith))
