use Rattle.partitions.proofs.Writes.{AreAssigned}
use Rattle.partitions.proofs.partition.assign.Given as goal

abbrev pub invariant-loop-place : goal.invariant-loop-place
invariant-loop-place l = AreAssigned l.order l.initial.blocks l.blocks l.first l.place l.new
