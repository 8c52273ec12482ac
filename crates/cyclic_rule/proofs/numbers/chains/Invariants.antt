use Rattle.cyclic_rule.proofs.Prelude.{◌≡◌, ℕ, length, HasArc, IsNextAt}
use Rattle.cyclic_rule.proofs.numbers.chains.Given as goal

abbrev pub invariant-loop-part : goal.invariant-loop-part
invariant-loop-part l = record {
  count : length l.rows ≡ length l.sorted.links;
  sound : (m k : ℕ) → HasArc l.rows m k → IsNextAt l.sorted l.orders l.part k m;
  complete : (m k : ℕ) → IsNextAt l.sorted l.orders l.part k m → HasArc l.rows m k;
}
