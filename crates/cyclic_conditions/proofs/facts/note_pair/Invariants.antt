use Rattle.cyclic_conditions.proofs.Prelude.{ℕ, ◌<◌, pair_at, IsOwner, AreMore, HasFirst}
use Rattle.cyclic_conditions.proofs.facts.note_pair.Given as goal

abbrev pub invariant-loop-event : goal.invariant-loop-event
invariant-loop-event l = record {
  more : AreMore l.laps l.initial.firsts l.firsts;
  noted : (k m : ℕ) → k < l.event-index → IsOwner l.laps.component.shape.now m (pair_at l.event-items k).0
      → HasFirst l.firsts (pair_at l.laps.explored.pairs l.pair).1 m;
}
