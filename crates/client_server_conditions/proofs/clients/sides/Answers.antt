use Rattle.client_server_conditions.proofs.Prelude.{◌<◌, Bool, List, Option, length, refl, sym, subst, Link, BreaksClientServer, IsSideOrNone}
use Rattle.client_server_conditions.proofs.Sides.{sides_more, side_client}
use Rattle.client_server_conditions.proofs.clients.sides.Goals as goal

pub loop-link-preserved : goal.loop-link-preserved
loop-link-preserved c =
    let side = subst (λ (side : Option Bool). IsSideOrNone c.args.shape.now c.args.roles.now c.loop-link.link side) c.in-Some.is c.in_ok-left_asks.ensures in
    sides_more c.args.shape.now c.args.roles.now c.loop-link.link c.loop-link.sides.items c.push.new.self.items c.in-Some.left_asks c.loop-link.invariant side c.in-Ok.ensures.items

pub returns-in_default-clause-fault : goal.returns-in_default-clause-fault
returns-in_default-clause-fault c = subst (BreaksClientServer c.args.shape.now c.args.roles.now) (sym c.no_client.ensures) (
  refl,
  record {
    parted = c.requires.parted;
    link = c.loop-link.link;
    within = subst (λ (ls : List Link). c.loop-link.link < length ls) c.links-link-end.ensures.value c.loop-link-test.true;
    broken = subst (λ (side : Option Bool). IsSideOrNone c.args.shape.now c.args.roles.now c.loop-link.link side) c.in_default.is c.in_ok-left_asks.ensures;
    first = λ m h. side_client c.args.shape.now c.args.roles.now m c.loop-link.sides.items c.loop-link.link c.loop-link.invariant h;
    left = refl;
  },
)
