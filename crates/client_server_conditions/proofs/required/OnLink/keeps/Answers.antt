use Rattle.client_server_conditions.proofs.Prelude.{◌∙◌, ◌&&◌, Bool, not, sym, ap, node_at, any_enough, table_of, is_in_turn, is_out_of_turn, keeps, RunCondition}
use Rattle.client_server_conditions.proofs.required.OnLink.keeps.Goals as goal

pub returns-in-Turns : goal.returns-in-Turns
returns-in-Turns c =
    let self = c.args.self.now in
    let vocabulary = c.args.self.now.component.shape.now.vocabulary in
    let node = node_at (table_of c.args.self.now.component) c.args.node in
    ap not
    (c.some_out_of_turn.ensures ∙ any_enough vocabulary node.next c.steps-steps.result.now (is_out_of_turn self.shared.now self.roles.now c.args.opened) c.steps-steps.ensures (λ x out. ap (λ (b : Bool). b && not (is_in_turn self.roles.now c.args.opened x.0)) (self.only x.0 out)))
    ∙ sym (ap (λ (condition : RunCondition). keeps condition vocabulary self.shared.now self.roles.now self.acknowledgements.now node c.args.opened) c.in-Turns.is)
