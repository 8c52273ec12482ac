use Rattle.rule_rankings.proofs.Prelude.{[], AreRanked}
use Rattle.rule_rankings.proofs.RowsBelow.{AreEachBelow}
use Rattle.rule_rankings.proofs.rows.rank_parts.Given as goal

abbrev pub invariant-loop-i : goal.invariant-loop-i
invariant-loop-i g l = AreEachBelow (record { alphabet = []; table = [] }) (record { ranks = []; laps = [] }) (λ i. AreRanked (g.R.Ranks.is_rank l.ranks i) (g.R.Ranks.is_lap l.ranks i)) l.i l.parts l.made
