use Rattle.hidden_bounds.proofs.Carried.{own_circles_are_exact, own_heights_are_exact}
use Rattle.hidden_bounds.proofs.own_graphs_are_exact.Goals as goal

pub returns-clause-heights : goal.returns-clause-heights
returns-clause-heights g c = own_heights_are_exact g.S.Transitions.step

pub returns-clause-circles : goal.returns-clause-circles
returns-clause-circles g c = own_circles_are_exact g.S.Transitions.step
