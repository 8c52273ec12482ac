use Rattle.numbered_walks.proofs.Prelude.{ℕ, List, drop, visible, RisesFrom, IsStanding, AllGo}
use Rattle.numbered_walks.proofs.Stepping.{AreReady}
use Rattle.numbered_walks.proofs.standing.do_together.Given as goal

abbrev pub invariant-loop-place : goal.invariant-loop-place
invariant-loop-place l = record {
  form : IsStanding l.movers l.standing;
  rises : RisesFrom 0 (drop l.place-index l.owners);
  ready : AreReady l.movers l.event (drop l.place-index l.owners) l.standing.terms.items;
  gone : (ys : List ℕ) (z : ℕ) → AllGo l.movers (visible l.event) (drop l.place-index l.owners) l.standing.terms.items l.standing.drawn ys z
      → AllGo l.movers (visible l.event) l.owners l.initial.standing.terms.items l.initial.standing.drawn ys z;
}
