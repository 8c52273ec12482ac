use Rattle.rule_rankings.proofs.Prelude.{◌≡◌, ◌≤◌, ◌^◌, slice_index, above_all}
use Rattle.rule_rankings.proofs.cyclic.scale.Given as goal

abbrev pub invariant-loop-number : goal.invariant-loop-number
invariant-loop-number l = record {
  is : l.above ≡ above_all (slice_index l.numbers) l.number-index;
  small : l.above ≤ 2 ^ 32;
}
