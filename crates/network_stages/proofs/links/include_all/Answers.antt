use Rattle.network_stages.proofs.Reading.{included_more}
use Rattle.network_stages.proofs.links.include_all.Goals as goal

pub loop-event-preserved : goal.loop-event-preserved
loop-event-preserved c =
    included_more c.args.pairs.now c.loop-event.event-index c.loop-event-item.result c.args.events.now c.loop-event.events c.insert.new.self c.loop-event-test.true c.loop-event-item.is c.in_ok-insert.ensures.ok c.loop-event.invariant
