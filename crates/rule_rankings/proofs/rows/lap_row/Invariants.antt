use Rattle.rule_rankings.specs.Rows.{HasLap}
use Rattle.rule_rankings.proofs.RowsBelow.{AreEachBelow}
use Rattle.rule_rankings.proofs.rows.lap_row.Given as goal

abbrev pub invariant-loop-event : goal.invariant-loop-event
invariant-loop-event g l = AreEachBelow (0, 0) 0 (λ _. HasLap (g.R.Ranks.is_lap l.ranks l.part)) l.event-index l.steps l.row.items
