use Rattle.std.proofs.Common.{refl}
use Rattle.csp_base.proofs.Rising.{inter_of_from_members}
use Rattle.csp_base.proofs.Sets.{set_rises, set_increases}
use Rattle.csp_base.proofs.event_set.EventSet.inter.Goals as goal

pub returns-clause-value : goal.returns-clause-value
returns-clause-value c =
    inter_of_from_members _ _ _ (set_rises _ _ c.self.invariant c.self.view_is) (set_rises _ _ c.in_ok-blocks.ensures.blocks refl)
    (simp (c.deref.ensures.value, c.deref-2.ensures.value, c.self.view_is, c.other.view_is) at c.in_ok-blocks.ensures.members)

pub returns-clause-rising : goal.returns-clause-rising
returns-clause-rising c = set_increases _ _ c.in_ok-blocks.ensures.blocks refl
