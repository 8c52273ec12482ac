use Rattle.csp_base.proofs.Sets.{no_events}
use Rattle.csp_base.proofs.event_set.EventSet.is_empty.Goals as goal

pub returns : goal.returns
returns c = no_events _ _ _ c.self.invariant c.self.view_is (rw (← c.as_slice.ensures.value) c.is_empty.ensures)
