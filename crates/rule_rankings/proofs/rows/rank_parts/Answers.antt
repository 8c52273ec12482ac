use Rattle.rule_rankings.proofs.Prelude.{◌∙◌, List, [], subst, if_both, was_made, Node, AreLaps, AreRanked, AreRanks}
use Rattle.rule_rankings.proofs.RowsBelow.{below_more}
use Rattle.rule_rankings.proofs.rows.rank_parts.Goals as goal

pub loop-i-preserved : goal.loop-i-preserved
loop-i-preserved g c =
    let rank = g.R.Ranks.is_rank c.args.ranks.now in
    let lap = g.R.Ranks.is_lap c.args.ranks.now in
    let i = c.loop-i.i in
    let nodes = c.nodes.ensures.value ∙ c.table.ensures in
    let ranked = if_both c.rank_part.result _ _ (AreRanked (rank i) (lap i) c.index-parts-i.result) c.rank_part.ensures.ranks c.rank_part.ensures.laps (λ made ranks laps. record {
      ranks = subst (λ (ns : List Node). AreRanks (rank i) ns made.ranks) nodes ranks;
      laps = subst (λ (ns : List Node). AreLaps (lap i) ns made.laps) nodes laps;
    }) in
    let made = was_made c.rank_part.result _ _ c.in_ok-push_made.ensures.ok ranked in
    below_more (record { alphabet = []; table = [] }) (record { ranks = []; laps = [] }) (λ i. AreRanked (rank i) (lap i)) i c.args.parts.now c.loop-i.made c.push_made.new.self c.index-parts-i.result made.0 c.loop-i.invariant c.loop-i-test.true c.index-parts-i.is made.2 made.1
