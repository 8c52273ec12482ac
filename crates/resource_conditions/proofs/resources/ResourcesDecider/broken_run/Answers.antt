use Rattle.resource_conditions.proofs.Prelude.{◌≡◌, ◌∙◌, ℕ, List, Option, true, ap, sym, subst, Shape, UseSets, end_of, part_at, SeesOnly, holder_step, observed, IsDecided, AreOwners, holder_only, meets, IfOk-weaker}
use Rattle.resource_conditions.proofs.Holding.{decided}
use Rattle.resource_conditions.proofs.resources.ResourcesDecider.broken_run.Goals as goal

pub failing_run-requires-clause-only : goal.failing_run-requires-clause-only
failing_run-requires-clause-only c =
    let g = c.args.self.now.setting.now in
    let are = subst (λ (s : Shape). AreOwners s c.owners.result.now) c.sorted_shape.ensures c.owners.ensures in
    subst (λ (H : List ℕ). SeesOnly c.component-component.result.shape.now.vocabulary (holder_step H)) (sym c.new-holder.ensures)
    (subst (λ (s : Shape). SeesOnly s.vocabulary (holder_step c.owners.result.now)) (sym c.component-component.ensures.shape) (holder_only g.shape c.owners.result.now c.shape-form.ensures.form are))

pub returns : goal.returns
returns c =
    let g = c.args.self.now.setting.now in
    let part = c.args.part in
    let owners = c.owners.result.now in
    let component = c.component-component.result in
    let are = subst (λ (s : Shape). AreOwners s owners) c.sorted_shape.ensures c.owners.ensures in
    let resource = sym (c.is_resource.ensures ∙ ap (λ (u : UseSets). u.resource) c.uses.ensures) ∙ c.if-not-is_resource.false in
    let at = λ (run : Option (List ℕ)) (s : Shape) (n : ℕ) (H : List ℕ). IsDecided s n (λ t. meets c.args.self.now.asked g part (end_of (part_at s.parts n).table 0 t) (observed (holder_step H) 0 t) ≡ true) run in
    IfOk-weaker c.failing_run.result _ _ (λ (run : Option (List ℕ)) d.
    decided g part owners c.shape-form.ensures.form c.shape-form.ensures.apart c.requires are c.args.self.now.asked run resource
    (subst (λ (s : Shape). at run s part owners) c.component-component.ensures.shape
    (subst (λ (n : ℕ). at run component.shape.now n owners) c.component-component.ensures.number
    (subst (λ (H : List ℕ). at run component.shape.now component.number H) c.new-holder.ensures d)))) c.failing_run.ensures
