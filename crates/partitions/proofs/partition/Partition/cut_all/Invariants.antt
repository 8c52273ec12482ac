use Rattle.partitions.specs.Blocks.{state_of, count_of}
use Rattle.partitions.proofs.Splitting.{AreCutUpTo}
use Rattle.partitions.proofs.partition.Partition.cut_all.Given as goal

abbrev pub invariant-loop-block : goal.invariant-loop-block
invariant-loop-block l = AreCutUpTo (count_of l.initial.self) (state_of l.initial.self) (state_of l.self) l.touched l.block-index
