use Rattle.csp_base.proofs.Sets.{set_increases}
use Rattle.csp_base.proofs.event_set.EventSet.first_from.Goals as goal

pub returns-in-Some-clause-rising : goal.returns-in-Some-clause-rising
returns-in-Some-clause-rising c = set_increases _ _ c.self.invariant c.self.view_is

pub returns-in-None-clause-rising : goal.returns-in-None-clause-rising
returns-in-None-clause-rising c = set_increases _ _ c.self.invariant c.self.view_is
