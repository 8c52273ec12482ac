use Rattle.partitions.proofs.Prelude.{get_or, refl, state_of, count_of, IsMarked}
use Rattle.partitions.proofs.Splitting.{one_more_marked, same_count}
use Rattle.partitions.proofs.partition.Partition.mark_all.Goals as goal

pub loop-source-preserved : goal.loop-source-preserved
loop-source-preserved c =
    one_more_marked (count_of c.args.self.now) (state_of c.args.self.now) (state_of c.loop-source.self) (state_of c.mark.new.self) c.loop-source.touched.items c.mark.new.touched.items c.args.steps.now c.loop-source.source-index (get_or c.args.steps.now c.loop-source.source-index (0, 0)).1 (0, 0) c.loop-source-test.true refl c.loop-source.invariant
    (same_count (count_of c.args.self.now) (state_of c.loop-source.self) c.loop-source.invariant.fit (λ n. IsMarked n (state_of c.loop-source.self) (state_of c.mark.new.self) (get_or c.args.steps.now c.loop-source.source-index (0, 0)).1) c.in_ok-mark.ensures.marked)
    c.in_ok-mark.ensures.touched
