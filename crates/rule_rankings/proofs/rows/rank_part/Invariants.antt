use Rattle.rule_rankings.proofs.Prelude.{[], pos, map, no_node, AreEach, HasLap}
use Rattle.rule_rankings.proofs.RowsBelow.{AreEachBelow}
use Rattle.rule_rankings.proofs.rows.rank_part.Given as goal

abbrev pub invariant-loop-node : goal.invariant-loop-node
invariant-loop-node g l = record {
  ranks : AreEachBelow no_node [] (λ _ node row. AreEach [] (pos 0) (λ _. g.R.Ranks.is_rank l.ranks l.part) node.accept row) l.node-index l.nodes (map (λ row. row.items) l.rank_rows);
  laps : AreEachBelow no_node [] (λ _ node row. AreEach (0, 0) 0 (λ _. HasLap (g.R.Ranks.is_lap l.ranks l.part)) node.next row) l.node-index l.nodes (map (λ row. row.items) l.lap_rows);
}
