use Rattle.client_server_conditions.proofs.Prelude.{length, subst, sym, Shape, IsLinked, AreSides}
use Rattle.client_server_conditions.proofs.Sides.{side_client}
use Rattle.client_server_conditions.proofs.network.Network.new.Goals as goal

pub invariant_of-result : goal.invariant_of-result
invariant_of-result c =
    let shape = c.args.shape.now in
    let roles = c.args.roles.now in
    let sides = c.in_ok-sides.sides.items in
    subst (λ (s : Shape). IsLinked (record { shape = s; roles = roles }) × AreSides s roles (length s.links) sides) (sym c.in_ok-sorted.ensures) (
      record {
        form = c.requires.form;
        count = c.requires.roles;
        parted = c.in_ok-check_parted.ensures.parted;
        linked = λ l h. side_client shape roles l c.in_ok-sides.sides.items (length c.args.shape.now.links) c.in_ok-sides.ensures.sides h;
      },
      c.in_ok-sides.ensures.sides,
    )
