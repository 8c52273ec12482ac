use Rattle.rule_rankings.proofs.Prelude.{slice_index, AreTops}
use Rattle.rule_rankings.proofs.cyclic.tops.Given as goal

abbrev pub invariant-loop-part : goal.invariant-loop-part
invariant-loop-part l = AreTops l.sorted (slice_index l.numbers) l.part l.tops.items
