use Rattle.resource_rule.proofs.Prelude.{◌≤◌, ℕ, length, subst, arith, below_more, get_or_read, Shape, node_at, part_at, AreEnough, node_of, IsInTurn}
use Rattle.resource_rule.proofs.InTurn.{each_in_turn}
use Rattle.resource_rule.proofs.user.User.node_in_turn.Goals as goal

pub loop-event-preserved : goal.loop-event-preserved
loop-event-preserved c =
    let at = get_or_read c.steps-event-items.result.now c.loop-event.event-index c.loop-event-item.result c.loop-event-test.true c.loop-event-item.is (0, 0) in
    below_more _ _ c.loop-event.invariant (subst (λ (p : ℕ × ℕ). IsInTurn c.args.self.now.setting.now c.args.self.now.part c.args.held.now p.0) at (c.in_turn.ensures c.if-not-in_turn.false))

pub returns : goal.returns
returns c _ e possible =
    let g = c.args.self.now.setting.now in
    let steps = c.steps-event-items.result.now in
    let at = λ (s : Shape) (n : ℕ). AreEnough s.vocabulary (node_at (part_at s.parts n).table c.args.node).next c.steps-event-items.result.now in
    let enough = subst (λ (s : Shape). at s c.args.self.now.part) c.component-component.ensures.shape (subst (λ (n : ℕ). at c.component-component.result.shape.now n) c.component-component.ensures.number c.steps-event-items.ensures) in
    let last : length c.steps-event-items.result.now ≤ c.loop-event.event-index = c.loop-event-test.false in
    each_in_turn g c.args.self.now.part c.shape-form.ensures.form c.args.held.now (node_of g c.args.self.now.part c.args.node).next steps enough (λ k h. c.loop-event.invariant k (omega arith)) e possible
