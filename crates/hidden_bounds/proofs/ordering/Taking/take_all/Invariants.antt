use Rattle.hidden_bounds.proofs.Prelude.{◌≡◌, ◌+◌, false, IsTaking, AreKnown, one_more, waiting}
use Rattle.hidden_bounds.proofs.ordering.Taking.take_all.Given as goal

abbrev pub invariant-loop-more : goal.invariant-loop-more
invariant-loop-more l = record {
  so_far : IsTaking l.scope l.self;
  known : l.more ≡ false → AreKnown l.self.standings.items;
}

abbrev pub decreases-loop-more : goal.decreases-loop-more
decreases-loop-more l = waiting l.self.standings.items + one_more l.more
