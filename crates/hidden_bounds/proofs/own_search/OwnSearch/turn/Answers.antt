use Rattle.hidden_bounds.specs.Own.{OwnArc}
use Rattle.hidden_bounds.proofs.OwnTrails.{front_linked}
use Rattle.hidden_bounds.proofs.own_search.OwnSearch.turn.Goals as goal

pub returns-in-None-clause-trail : goal.returns-in-None-clause-trail
returns-in-None-clause-trail c = front_linked (OwnArc c.args.graph.now.table.now c.args.graph.now.events.now) _ _ _ c.pop.ensures.items c.requires.trail
