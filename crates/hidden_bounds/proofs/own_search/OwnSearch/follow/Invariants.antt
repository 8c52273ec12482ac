use Rattle.hidden_bounds.specs.Own.{IsOwnTrail}
use Rattle.hidden_bounds.proofs.own_search.OwnSearch.follow.Given as goal

abbrev pub invariant-loop-turn : goal.invariant-loop-turn
invariant-loop-turn l = IsOwnTrail l.graph.table.now l.graph.events.now l.trail.items
