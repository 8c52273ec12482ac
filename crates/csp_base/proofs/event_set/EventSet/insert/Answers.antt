use Rattle.std.proofs.Common.{refl, sym, ◌∙◌, arith}
use Rattle.csp_base.proofs.Rising.{same_members, has-with_member, RisesFrom-with_member}
use Rattle.csp_base.proofs.Sets.{set_increases, set_rises}
use Rattle.csp_base.proofs.event_set.EventSet.insert.Goals as goal

pub returns-clause-ok : goal.returns-clause-ok
returns-clause-ok c =
    let members = simp (c.event.view_is, c.self.view_is) at c.in_ok-include.ensures.members in
    same_members 0 0 _ _ (set_rises _ _ c.in_ok-include.ensures.blocks refl)
    (RisesFrom-with_member 0 c.args.event c.args.self.now (omega arith) (set_rises _ _ c.self.invariant c.self.view_is))
    (λ x. members x ∙ sym (has-with_member c.args.event c.args.self.now x))

pub returns-in_err-include-clause-rising : goal.returns-in_err-include-clause-rising
returns-in_err-include-clause-rising c = set_increases _ _ c.include.ensures.blocks refl

pub returns-clause-rising : goal.returns-clause-rising
returns-clause-rising c = set_increases _ _ c.include.ensures.blocks refl
