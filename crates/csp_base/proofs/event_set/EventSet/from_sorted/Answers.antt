use Rattle.std.proofs.Common.{refl}
use Rattle.csp_base.proofs.Rising.{same_members, rises_from_increasing}
use Rattle.csp_base.proofs.Sets.{set_rises}
use Rattle.csp_base.proofs.event_set.EventSet.from_sorted.Goals as goal

pub returns : goal.returns
returns c = same_members 0 0 _ _ (set_rises _ _ c.in_ok-blocks.ensures.blocks refl) (rises_from_increasing _ c.requires) c.in_ok-blocks.ensures.members
