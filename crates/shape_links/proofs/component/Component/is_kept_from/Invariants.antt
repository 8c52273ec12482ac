use Rattle.shape_links.proofs.Prelude.{ℕ, ◌<◌, [], get_or, pair_at, IsTurned}
use Rattle.shape_links.proofs.component.Component.is_kept_from.Given as goal

abbrev pub invariant-loop-event : goal.invariant-loop-event
invariant-loop-event l = (k : ℕ) → k < l.event-index → IsTurned l.self.shape.now l.watched (pair_at l.steps k).0 (get_or l.odd l.node []) (get_or l.odd (pair_at l.steps k).1 [])
