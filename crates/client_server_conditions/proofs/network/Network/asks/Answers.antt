use Rattle.client_server_conditions.proofs.Prelude.{◌∙◌, ℕ, nat_eq, sym, ap, beq, Shape}
use Rattle.client_server_conditions.proofs.Sides.{asks_is, grants_is, read_end}
use Rattle.client_server_conditions.proofs.network.Network.asks.Goals as goal

pub returns-clause-client : goal.returns-clause-client
returns-clause-client c h =
    let e = read_end c.args.self.now c.self.inside.sorted c.self.inside.roles.now c.self.inside.sides.items c.links.result.now c.index-links-link.result c.left.result c.args.part c.args.link c.index.result.now c.self.view_is c.self.invariant.1 (c.links.ensures.value ∙ ap (λ (s : Shape). s.links) c.shape.ensures.value) c.index-links-link.is c.left.ensures.value c.index.ensures c.requires.link c.requires.end in
    asks_is c.args.self.now c.args.part c.args.link c.index.result.now e.0 (ap (λ (k : ℕ). beq (nat_eq k c.args.part) c.index.result.now) (sym e.1) ∙ h)

pub returns-clause-server : goal.returns-clause-server
returns-clause-server c h =
    let e = read_end c.args.self.now c.self.inside.sorted c.self.inside.roles.now c.self.inside.sides.items c.links.result.now c.index-links-link.result c.left.result c.args.part c.args.link c.index.result.now c.self.view_is c.self.invariant.1 (c.links.ensures.value ∙ ap (λ (s : Shape). s.links) c.shape.ensures.value) c.index-links-link.is c.left.ensures.value c.index.ensures c.requires.link c.requires.end in
    grants_is c.args.self.now c.args.part c.args.link c.index.result.now e.0 (ap (λ (k : ℕ). beq (nat_eq k c.args.part) c.index.result.now) (sym e.1) ∙ h)
