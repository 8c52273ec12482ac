use Rattle.rule_rankings.proofs.Prelude.{◌∙◌, ◌∷◌, ℕ, List, [], map, pos, ap, subst, map-append, was_made, no_node, AreEach, HasLap}
use Rattle.rule_rankings.proofs.RowsBelow.{below_more}
use Rattle.rule_rankings.proofs.rows.rank_part.Goals as goal

pub loop-node-preserved : goal.loop-node-preserved
loop-node-preserved g c =
    let is_rank = g.R.Ranks.is_rank c.args.ranks.now c.args.part in
    let is_lap = g.R.Ranks.is_lap c.args.ranks.now c.args.part in
    let ranks = was_made c.rank_row.result _ _ c.in_ok-push_made.ensures.ok c.rank_row.ensures in
    let laps = was_made c.lap_row.result _ _ c.in_ok-push_made-2.ensures.ok c.lap_row.ensures in
    record {
      ranks = below_more no_node [] (λ _ node row. AreEach [] (pos 0) (λ _. is_rank) node.accept row) c.loop-node.node-index c.args.nodes.now (map (λ row. row.items) c.loop-node.rank_rows) (map (λ row. row.items) c.push_made.new.self) c.node-item.result ranks.0.items c.loop-node.invariant.ranks c.loop-node-test.true c.node-item.is
          (subst (λ (Ms : List (List ℕ)). AreEach [] (pos 0) (λ _. is_rank) Ms ranks.0.items) c.accept.ensures ranks.2) (ap (map (λ row. row.items)) ranks.1 ∙ map-append (λ row. row.items) c.loop-node.rank_rows (ranks.0 ∷ []));
      laps = below_more no_node [] (λ _ node row. AreEach (0, 0) 0 (λ _. HasLap is_lap) node.next row) c.loop-node.node-index c.args.nodes.now (map (λ row. row.items) c.loop-node.lap_rows) (map (λ row. row.items) c.push_made-in-loop-node.new.self) c.node-item.result laps.0.items c.loop-node.invariant.laps c.loop-node-test.true c.node-item.is
          (subst (λ (xs : List (ℕ × ℕ)). AreEach (0, 0) 0 (λ _. HasLap is_lap) xs laps.0.items) c.next.ensures laps.2) (ap (map (λ row. row.items)) laps.1 ∙ map-append (λ row. row.items) c.loop-node.lap_rows (laps.0 ∷ []));
    }
