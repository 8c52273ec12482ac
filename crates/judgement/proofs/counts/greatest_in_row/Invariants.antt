use Rattle.judgement.proofs.Prelude.{◌≡◌, ◌<◌, take, greatest_from}
use Rattle.judgement.proofs.counts.greatest_in_row.Given as goal

abbrev pub invariant-loop-rank : goal.invariant-loop-rank
invariant-loop-rank l = (l.most ≡ greatest_from l.start (take l.rank-index l.row)) × (l.most < 9223372036854775808)
