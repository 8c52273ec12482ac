use Rattle.cyclic_conditions.proofs.Prelude.{ℕ, ◌<◌, AreFirsts, IsNoted}
use Rattle.cyclic_conditions.proofs.facts.note_all.Given as goal

abbrev pub invariant-loop-pair : goal.invariant-loop-pair
invariant-loop-pair l = record {
  firsts_are : AreFirsts l.laps l.firsts;
  noted : (p : ℕ) → p < l.pair → IsNoted l.laps l.firsts p;
}
