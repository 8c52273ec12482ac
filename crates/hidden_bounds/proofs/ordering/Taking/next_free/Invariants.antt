use Rattle.hidden_bounds.proofs.Prelude.{ℕ, ◌<◌, IsTaking, IsKnown, StayKnown}
use Rattle.hidden_bounds.proofs.ordering.Taking.next_free.Given as goal

abbrev pub invariant-loop-part : goal.invariant-loop-part
invariant-loop-part l = record {
  so_far : IsTaking l.scope l.self;
  stay : StayKnown l.initial.self.standings.items l.self.standings.items;
  known : (j : ℕ) → j < l.part → IsKnown l.self.standings.items j;
}
