use Rattle.client_server_conditions.proofs.Prelude.{◌∙◌, ◌&&◌, List, ℕ, ap, sym, not-true, has, Link, RoleSets, Shape, link_at, node_in}
use Rattle.client_server_conditions.proofs.OpenLinks.{all_taken}
use Rattle.client_server_conditions.proofs.duty.Duty.takes_answers_on.Goals as goal

pub returns : goal.returns
returns c none =
    let d = c.args.self.now in
    let shared = c.shared-shared.ensures ∙ ap (λ (k : Link). k.shared) (c.link.ensures ∙ ap (λ (s : Shape). link_at s c.args.link) c.sorted_shape.ensures) in
    let cack = c.cack.ensures ∙ ap (λ (r : RoleSets). r.cack) c.roles.ensures in
    all_taken d.network.now d.part c.args.link c.in_ok-acknowledgements.acknowledgements c.vocabulary.result.now (node_in d.network.now d.part c.args.node).accept c.acceptances.result.now c.vocabulary.ensures c.acceptances.ensures
    (λ e. c.in_ok-acknowledgements.ensures.members e ∙ ap (λ (xs : List ℕ). has xs e && has c.cack.result.now e) shared ∙ ap (λ (xs : List ℕ). has (link_at c.args.self.now.network.now.shape c.args.link).shared e && has xs e) cack)
    (sym c.some_refuses.ensures ∙ not-true _ none)
