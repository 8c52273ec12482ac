use Rattle.judgement.proofs.Counting.{one_count, still_fits}
use Rattle.judgement.proofs.counts.count_nodes.Goals as goal

pub with_nodes-count-requires : goal.with_nodes-count-requires
with_nodes-count-requires c = still_fits _ _ _ _ c.loop-part-test.true c.part-item.is c.loop-part.invariant c.requires

pub loop-part-preserved : goal.loop-part-preserved
loop-part-preserved c = one_count _ _ _ _ _ c.loop-part-test.true c.part-item.is c.loop-part.invariant c.with_nodes-count.ensures
