use Rattle.cyclic_conditions.proofs.Prelude.{◌≡◌, ◌∙◌, length, sym, subst, arith, links_of, IsOrder}
use Rattle.cyclic_conditions.proofs.LapPlaces.{links_count, keeps_none, order_none}
use Rattle.cyclic_conditions.proofs.orders.order_of.Goals as goal

pub returns-then-count-eq0-clause-keeps : goal.returns-then-count-eq0-clause-keeps
returns-then-count-eq0-clause-keeps c =
    let component = c.args.component.now in
    keeps_none component.shape.now component.number (sym (links_count component.shape.now component.number c.links-count.result.now c.links-count.ensures) ∙ c.if-count-eq0.true)

pub returns-then-count-eq0-clause-order : goal.returns-then-count-eq0-clause-order
returns-then-count-eq0-clause-order c =
    let component = c.args.component.now in
    subst (IsOrder component.shape.now component.number) (sym c.new.ensures) (order_none component.shape.now component.number (sym (links_count component.shape.now component.number c.links-count.result.now c.links-count.ensures) ∙ c.if-count-eq0.true))

pub new-requires-2 : goal.new-requires-2
new-requires-2 c =
    let some = c.if-count-eq0.false in
    let count : length c.links-count.result.now ≡ links_of c.args.component.now.shape.now c.args.component.now.number = links_count c.args.component.now.shape.now c.args.component.now.number c.links-count.result.now c.links-count.ensures in
    omega arith
