use Rattle.resource_rule.proofs.Prelude.{◌∙◌, ℕ, subst, cond-false, has, Shape, link_at, node_at, part_at, AreEnough, node_of, all_enough, off_link, is_use}
use Rattle.resource_rule.proofs.users.LinkUseRequirement.is_met.Goals as goal

pub returns : goal.returns
returns c =
    let u = c.args.self.now in
    let g = c.args.self.now.user.setting.now in
    let at = λ (s : Shape) (n : ℕ). AreEnough s.vocabulary (node_at (part_at s.parts n).table c.args.node).next c.steps.result.now in
    let enough = subst (λ (s : Shape). at s c.args.self.now.user.part) c.component-component.ensures.shape (subst (λ (n : ℕ). at c.component-component.result.shape.now n) c.component-component.ensures.number c.steps.ensures) in
    c.all_uses.ensures ∙ all_enough g.shape.vocabulary (node_of g u.user.part c.args.node).next c.steps.result.now (λ (step : ℕ × ℕ). is_use g u.link u.other c.args.state step.0) enough
    (λ x out. cond-false (has (link_at g.shape u.link).shared x.0) _ _ (off_link g.shape u.link x.0 c.shape-form.ensures.form u.link_within out))
