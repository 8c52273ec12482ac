use Rattle.partitions.specs.Blocks.{state_of, count_of, AreCut}
use Rattle.partitions.proofs.Splitting.{split_from, same_count}
use Rattle.partitions.proofs.partition.Partition.split.Goals as goal

pub returns : goal.returns
returns c =
    split_from (count_of c.args.self.now) (state_of c.args.self.now) (state_of c.mark_all.new.self) (state_of c.cut_all.new.self) c.in_ok-touched.touched.items c.args.steps.now c.in_ok-touched.ensures
    (same_count (count_of c.args.self.now) (state_of c.mark_all.new.self) c.in_ok-touched.ensures.fit (λ n. AreCut n (state_of c.mark_all.new.self) (state_of c.cut_all.new.self)) c.in_ok-cut_all.ensures)
