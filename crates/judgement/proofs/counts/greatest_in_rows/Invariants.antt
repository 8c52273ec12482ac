use Rattle.judgement.proofs.Prelude.{◌≡◌, ◌<◌, map, take, flat_map, greatest_from}
use Rattle.judgement.proofs.counts.greatest_in_rows.Given as goal

abbrev pub invariant-loop-row : goal.invariant-loop-row
invariant-loop-row l = (l.most ≡ greatest_from l.start (flat_map (λ row. row) (map (λ row. row.items) (take l.row-index l.rows)))) × (l.most < 9223372036854775808)
