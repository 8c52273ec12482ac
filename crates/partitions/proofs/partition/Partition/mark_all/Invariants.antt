use Rattle.partitions.proofs.Prelude.{take, state_of, count_of, AreMarked}
use Rattle.partitions.proofs.partition.Partition.mark_all.Given as goal

abbrev pub invariant-loop-source : goal.invariant-loop-source
invariant-loop-source l = AreMarked (count_of l.initial.self) (state_of l.initial.self) (state_of l.self) l.touched.items (take l.source-index l.steps)
