use Rattle.resource_conditions.proofs.Prelude.{◌∙◌, ℕ, subst, cond-false, has, Shape, node_at, part_at, AreEnough, node_of, is_turn, all_enough}
use Rattle.resource_conditions.proofs.tests.turns_at.Goals as goal

pub returns : goal.returns
returns c =
    let g = c.args.setting.now in
    let at = λ (s : Shape) (n : ℕ). AreEnough s.vocabulary (node_at (part_at s.parts n).table c.args.node).next c.steps.result.now in
    let enough = subst (λ (s : Shape). at s c.args.part) c.component-component.ensures.shape (subst (λ (n : ℕ). at c.component-component.result.shape.now n) c.component-component.ensures.number c.steps.ensures) in
    c.all_turns.ensures ∙ all_enough g.shape.vocabulary (node_of g c.args.part c.args.node).next c.steps.result.now (λ (step : ℕ × ℕ). is_turn g c.args.part c.args.state step.0) enough (λ x out. cond-false (has g.shape.vocabulary x.0) _ _ out)
