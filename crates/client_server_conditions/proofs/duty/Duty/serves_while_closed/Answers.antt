use Rattle.client_server_conditions.proofs.Prelude.{◌≡◌, ◌∙◌, List, ℕ, true, ap, subst, sym, false≢true, not-true, has, RoleSets, role_at, node_in}
use Rattle.client_server_conditions.proofs.OpenLinks.{none_taken}
use Rattle.client_server_conditions.proofs.duty.Duty.serves_while_closed.Goals as goal

pub returns-then-is_empty : goal.returns-then-is_empty
returns-then-is_empty c _ l h opened = absurd (false≢true (subst (λ (xs : List ℕ). has xs l ≡ true) (c.is_empty.ensures.0 c.if-is_empty.true) opened))

pub returns : goal.returns
returns c none l h opened grants =
    let d = c.args.self.now in
    none_taken d.network.now.shape.vocabulary (role_at d.network.now.roles d.part).sreq c.vocabulary.result.now c.sreq.result.now (node_in d.network.now d.part c.args.node).accept c.acceptances.result.now c.vocabulary.ensures (c.sreq.ensures ∙ ap (λ (r : RoleSets). r.sreq) c.roles.ensures) c.acceptances.ensures
    (sym c.some_takes.ensures ∙ not-true _ none)
