use Rattle.judgement.proofs.Prelude.{◌≡◌, ◌<◌, take, flat_map, greatest_from}
use Rattle.judgement.proofs.counts.greatest_in_parts.Given as goal

abbrev pub invariant-loop-part : goal.invariant-loop-part
invariant-loop-part l = (l.most ≡ greatest_from l.start (flat_map (λ part. flat_map (λ row. row) part.ranks) (take l.part-index l.parts))) × (l.most < 9223372036854775808)
