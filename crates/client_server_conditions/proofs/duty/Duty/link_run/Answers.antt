use Rattle.client_server_conditions.proofs.Prelude.{◌∙◌, ◌&&◌, List, ℕ, sym, ap, IfOk-weaker, has, Link, RoleSets, Shape, link_at}
use Rattle.client_server_conditions.proofs.Opening.{HasSide, acknowledged_meets}
use Rattle.client_server_conditions.proofs.Deciding.{decided_on, not_asked, on_side, unseen}
use Rattle.client_server_conditions.proofs.duty.Duty.link_run.Goals as goal

pub returns-then-not-is_asked_of : goal.returns-then-not-is_asked_of
returns-then-not-is_asked_of c =
    let d = c.args.self.now in
    let side : HasSide c.args.self.now.network.now c.args.self.now.part c.args.link c.asks-asks.result = record { client = c.asks-asks.ensures.client; server = c.asks-asks.ensures.server } in
    let shared = c.shared-shared.ensures ∙ ap (λ (k : Link). k.shared) (c.link.ensures ∙ ap (λ (s : Shape). link_at s c.args.link) c.sorted_shape.ensures) in
    λ s _. not_asked d.network.now d.part c.args.link d.condition c.asks-asks.result c.some_acknowledged-acknowledged.result c.shape-linked.ensures.linked d.within side
    (c.some_acknowledged-acknowledged.ensures ∙ acknowledged_meets d.network.now d.part c.args.link c.asks-asks.result c.shared-shared.result.now c.roles-roles.result.now side shared c.roles-roles.ensures)
    (sym c.is_asked_of.ensures ∙ c.if-not-is_asked_of.true) s

pub invariant_of-required : goal.invariant_of-required
invariant_of-required c =
    let shared = c.shared-shared.ensures ∙ ap (λ (k : Link). k.shared) (c.link.ensures ∙ ap (λ (s : Shape). link_at s c.args.link) c.sorted_shape.ensures) in
    record { only = unseen c.args.self.now.network.now c.args.link c.component-component.result.shape.now c.shared-shared.result.now c.shape-linked.ensures.linked.form c.requires.link c.component-component.ensures.shape shared }

pub returns : goal.returns
returns c =
    let d = c.args.self.now in
    let side : HasSide c.args.self.now.network.now c.args.self.now.part c.args.link c.asks-asks.result = record { client = c.asks-asks.ensures.client; server = c.asks-asks.ensures.server } in
    let shared = c.shared-shared.ensures ∙ ap (λ (k : Link). k.shared) (c.link.ensures ∙ ap (λ (s : Shape). link_at s c.args.link) c.sorted_shape.ensures) in
    let cack = c.cack.ensures ∙ ap (λ (r : RoleSets). r.cack) c.roles-roles.ensures in
    IfOk-weaker c.failing_run.result _ _
    (λ run. decided_on d.network.now d.part run d.condition c.args.link c.in_ok-acknowledgements.acknowledgements c.some_acknowledged-acknowledged.result c.component-component.result.shape.now c.component-component.result.number c.new.result.events.now c.shared-shared.result.now c.roles-roles.result.now
    c.component-component.ensures.shape c.component-component.ensures.number (c.new.ensures ∙ shared) shared c.roles-roles.ensures
    (on_side d.network.now d.part c.args.link d.condition c.asks-asks.result c.some_acknowledged-acknowledged.result side (sym c.is_asked_of.ensures ∙ c.if-not-is_asked_of.false))
    (λ e. c.in_ok-acknowledgements.ensures.members e ∙ ap (λ (xs : List ℕ). has xs e && has c.cack.result.now e) shared ∙ ap (λ (xs : List ℕ). has (link_at c.args.self.now.network.now.shape c.args.link).shared e && has xs e) cack)
    (c.some_acknowledged-acknowledged.ensures ∙ acknowledged_meets d.network.now d.part c.args.link c.asks-asks.result c.shared-shared.result.now c.roles-roles.result.now side shared c.roles-roles.ensures))
    c.failing_run.ensures
