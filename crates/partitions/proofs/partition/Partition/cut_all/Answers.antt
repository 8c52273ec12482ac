use Rattle.partitions.proofs.Prelude.{get_or, refl, state_of, count_of, IsCut}
use Rattle.partitions.proofs.Splitting.{one_more_cut, read_known, same_count}
use Rattle.partitions.proofs.partition.Partition.cut_all.Goals as goal

pub cut_block-requires-clause-block : goal.cut_block-requires-clause-block
cut_block-requires-clause-block c = read_known (count_of c.args.self.now) (state_of c.args.self.now) (state_of c.loop-block.self) c.args.touched.now c.loop-block.block-index _ c.loop-block-test.true refl c.loop-block.invariant

pub loop-block-preserved : goal.loop-block-preserved
loop-block-preserved c =
    one_more_cut (count_of c.args.self.now) (state_of c.args.self.now) (state_of c.loop-block.self) (state_of c.cut_block.new.self) c.args.touched.now c.loop-block.block-index _ c.loop-block-test.true refl c.loop-block.invariant
    (same_count (count_of c.args.self.now) (state_of c.loop-block.self) c.loop-block.invariant.fit (λ n. IsCut n (state_of c.loop-block.self) (state_of c.cut_block.new.self) (get_or c.args.touched.now c.loop-block.block-index 0)) c.in_ok-cut_block.ensures)
