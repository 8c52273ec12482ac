use Rattle.client_server_conditions.proofs.Prelude.{◌∙◌, Bool, ap, subst, sym, none-some, same_Some, has, RoleSets, Shape, IsOwner, is_in_turn}
use Rattle.client_server_conditions.proofs.duty.Duty.takes_in_turn.Goals as goal

pub returns-in_default : goal.returns-in_default
returns-in_default c _ l on = absurd (none-some l (c.in_default.ensures.owned l (subst (λ (s : Shape). IsOwner s l c.args.event) (sym c.sorted_shape.ensures) on)))

pub returns : goal.returns
returns c turn l on =
    let same = same_Some c.in-Some.link l (c.in-Some.ensures.owned l (subst (λ (s : Shape). IsOwner s l c.args.event) (sym c.sorted_shape.ensures) on)) in
    ap (λ (r : RoleSets). is_in_turn r (has c.args.opened.now l) c.args.event) (sym c.roles.ensures)
    ∙ ap (λ (b : Bool). is_in_turn c.roles.result.now b c.args.event) (ap (has c.args.opened.now) (sym same) ∙ sym c.contains.ensures.member)
    ∙ sym c.in_turn.ensures ∙ turn
