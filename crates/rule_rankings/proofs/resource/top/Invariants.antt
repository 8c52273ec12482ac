use Rattle.rule_rankings.proofs.Prelude.{◌≡◌, ◌≤◌, MOST_COMPONENTS, number_by, top_number}
use Rattle.rule_rankings.proofs.resource.top.Given as goal

abbrev pub invariant-loop-part : goal.invariant-loop-part
invariant-loop-part l = record {
  is : l.top ≡ top_number l.setting.uses (number_by l.heights) l.part;
  few : l.top ≤ MOST_COMPONENTS;
}
