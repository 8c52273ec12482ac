use Rattle.csp_base.proofs.BlockMembers.{has-events_of}
use Rattle.csp_base.proofs.event_set.EventSet.blocks.Goals as goal

pub returns-clause-bits : goal.returns-clause-bits
returns-clause-bits c = rw (c.as_slice.ensures.value, ← c.self.view_is) (λ b k l. has-events_of 0 _ b k c.self.invariant l)
