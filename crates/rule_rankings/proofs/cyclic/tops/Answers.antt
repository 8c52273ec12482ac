use Rattle.std.specs.Prelude.{slice_index}
use Rattle.rule_rankings.proofs.CyclicRanking.{tops_more}
use Rattle.rule_rankings.proofs.cyclic.tops.Goals as goal

pub loop-part-preserved : goal.loop-part-preserved
loop-part-preserved c = tops_more c.args.sorted.now (slice_index c.args.numbers.now) c.loop-part.part c.loop-part.tops.items c.push.new.self.items c.top.result c.loop-part.invariant c.top.ensures c.in_ok-push.ensures.items
