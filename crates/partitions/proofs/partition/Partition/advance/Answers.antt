use Rattle.partitions.proofs.Prelude.{arith, state_of, count_of}
use Rattle.partitions.proofs.Marking.{middle_fits}
use Rattle.partitions.proofs.partition.Partition.advance.Goals as goal

pub overflow_add-middle : goal.overflow_add-middle
overflow_add-middle c = omega (arith, middle_fits (count_of c.args.self.now) (state_of c.args.self.now) c.args.node c.index-block.result.now c.index-middle.result.now c.index-place.result.now c.requires.blocks c.requires.node c.index-block.ensures c.index-middle.ensures c.index-place.ensures c.requires.unmarked)
