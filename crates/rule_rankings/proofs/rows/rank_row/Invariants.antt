use Rattle.std.proofs.Common.{[], pos}
use Rattle.rule_rankings.proofs.RowsBelow.{AreEachBelow}
use Rattle.rule_rankings.proofs.rows.rank_row.Given as goal

abbrev pub invariant-loop-set : goal.invariant-loop-set
invariant-loop-set g l = AreEachBelow [] (pos 0) (λ _. g.R.Ranks.is_rank l.ranks l.part) l.set-index l.accept l.row.items
