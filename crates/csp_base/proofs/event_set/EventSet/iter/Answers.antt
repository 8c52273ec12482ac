use Rattle.csp_base.proofs.Sets.{set_increases}
use Rattle.csp_base.proofs.event_set.EventSet.iter.Goals as goal

pub returns-clause-rising : goal.returns-clause-rising
returns-clause-rising c = set_increases _ _ c.self.invariant c.self.view_is
