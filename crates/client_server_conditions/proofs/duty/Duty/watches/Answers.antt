use Rattle.client_server_conditions.proofs.Prelude.{◌∙◌, ◌&&◌, Bool, ap, sym, Link, Shape, link_at}
use Rattle.client_server_conditions.proofs.Opening.{HasSide, acknowledged_meets}
use Rattle.client_server_conditions.proofs.OpenLinks.{asked_where}
use Rattle.client_server_conditions.proofs.duty.Duty.watches.Goals as goal

pub returns-then-acknowledged : goal.returns-then-acknowledged
returns-then-acknowledged c asked =
    let d = c.args.self.now in
    let side : HasSide c.args.self.now.network.now c.args.self.now.part c.args.link c.asks-asks.result = record { client = c.asks-asks.ensures.client; server = c.asks-asks.ensures.server } in
    let shared = c.shared-shared.ensures ∙ ap (λ (k : Link). k.shared) (c.link.ensures ∙ ap (λ (s : Shape). link_at s c.args.link) c.sorted_shape.ensures) in
    ap (λ (b : Bool). b && c.is_asked_of-is_asked.result) (sym c.if-acknowledged.true)
    ∙ ap (λ (b : Bool). c.some_acknowledged-acknowledged.result && b) c.is_asked_of-is_asked.ensures
    ∙ asked_where d.network.now d.part c.args.link d.condition c.asks-asks.result c.some_acknowledged-acknowledged.result c.shape-linked.ensures.linked d.within side asked
    ∙ c.some_acknowledged-acknowledged.ensures
    ∙ acknowledged_meets d.network.now d.part c.args.link c.asks-asks.result c.shared-shared.result.now c.roles.result.now side shared c.roles.ensures

pub returns-else-acknowledged : goal.returns-else-acknowledged
returns-else-acknowledged c asked =
    let d = c.args.self.now in
    let side : HasSide c.args.self.now.network.now c.args.self.now.part c.args.link c.asks-asks.result = record { client = c.asks-asks.ensures.client; server = c.asks-asks.ensures.server } in
    let shared = c.shared-shared.ensures ∙ ap (λ (k : Link). k.shared) (c.link.ensures ∙ ap (λ (s : Shape). link_at s c.args.link) c.sorted_shape.ensures) in
    c.some_acknowledged-acknowledged.ensures
    ∙ acknowledged_meets d.network.now d.part c.args.link c.asks-asks.result c.shared-shared.result.now c.roles.result.now side shared c.roles.ensures
