use Rattle.std.specs.Prelude.{slice_index}
use Rattle.rule_rankings.proofs.CyclicRanking.{IsGreatestBelow}
use Rattle.rule_rankings.proofs.cyclic.greatest.Given as goal

abbrev pub invariant-loop-link : goal.invariant-loop-link
invariant-loop-link l = IsGreatestBelow (slice_index l.numbers) l.links l.link-index l.top
