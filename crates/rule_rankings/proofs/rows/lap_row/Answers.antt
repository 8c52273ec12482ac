use Rattle.rule_rankings.specs.Rows.{HasLap}
use Rattle.rule_rankings.proofs.RowsBelow.{below_more}
use Rattle.rule_rankings.proofs.rows.lap_row.Goals as goal

pub loop-event-preserved : goal.loop-event-preserved
loop-event-preserved g c = below_more (0, 0) 0 (λ _. HasLap (g.R.Ranks.is_lap c.args.ranks.now c.args.part)) c.loop-event.event-index c.args.steps.now c.loop-event.row.items c.push.new.self.items c.loop-event-item.result c.lap.result c.loop-event.invariant c.loop-event-test.true c.loop-event-item.is c.lap.ensures c.in_ok-push.ensures.items
