use Rattle.event_tables.proofs.Prelude.{arith, spread, all_events}
use Rattle.event_tables.proofs.CountLaws.{events_step}
use Rattle.event_tables.proofs.counts.event_count.Goals as goal

pub loop-one-preserved : goal.loop-one-preserved
loop-one-preserved c = record {
  within = omega (arith, c.saturating_add-count.ensures);
  so_far =
      events_step c.loop-one.count c.saturating_add-count.result c.shared_count.result 18446744073709551615 c.loop-one.one-index c.args.shared.now c.one-item.result
      (all_events (spread c.args.shared.now)) c.loop-one-test.true c.one-item.is c.shared_count.ensures c.saturating_add-count.ensures c.loop-one.invariant.so_far;
}
