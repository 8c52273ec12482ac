use Rattle.std.proofs.Common.{refl}
use Rattle.csp_base.proofs.Rising.{set_of_from_members}
use Rattle.csp_base.proofs.Sets.{set_increases, set_rises}
use Rattle.csp_base.proofs.event_set.EventSet.from_events.Goals as goal

pub returns-clause-value : goal.returns-clause-value
returns-clause-value c = set_of_from_members _ _ (set_rises _ _ c.in_ok-blocks.ensures.blocks refl) c.in_ok-blocks.ensures.members

pub returns-clause-rising : goal.returns-clause-rising
returns-clause-rising c = set_increases _ _ c.in_ok-blocks.ensures.blocks refl
