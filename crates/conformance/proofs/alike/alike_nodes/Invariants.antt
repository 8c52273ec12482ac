use Rattle.conformance.proofs.Prelude.{◌≡◌, length, AreAlike}
use Rattle.conformance.proofs.alike.alike_nodes.Given as goal

abbrev pub invariant-loop-number : goal.invariant-loop-number
invariant-loop-number l = record {
  count : length l.firsts.items ≡ l.number;
  alike : AreAlike l.part.table l.firsts.items;
}
