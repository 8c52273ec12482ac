use Rattle.cyclic_conditions.proofs.Prelude.{◌≡◌, ◌∙◌, Option, length, ap, sym, subst, refl, arith, with_items_is, links_in_order, Fact, IsOrder}
use Rattle.cyclic_conditions.proofs.LapPlaces.{keeps, is_order, none_kept}
use Rattle.cyclic_conditions.proofs.orders.order_along.Goals as goal

pub note_all-requires-clause-firsts : goal.note_all-requires-clause-firsts
note_all-requires-clause-firsts c = none_kept c.args.laps.now (length c.links.result.now) c.links.result.now c.deref_mut.result.now c.links.ensures refl (c.deref_mut.ensures.value ∙ c.in_ok-firsts.ensures)

pub returns-in-Ok-clause-keeps : goal.returns-in-Ok-clause-keeps
returns-in-Ok-clause-keeps c = keeps c.args.laps.now c.requires c.note_all.new.firsts c.in-Ok.ensures.firsts c.in-Ok.ensures.noted

pub returns-in-Ok-clause-order : goal.returns-in-Ok-clause-order
returns-in-Ok-clause-order c =
    let laps = c.args.laps.now in
    let count : length c.note_all.new.firsts ≡ c.in_ok-firsts.firsts.len = omega (arith, c.note_all.auto.firsts, ap (length {A = Option Fact}) c.deref_mut.ensures.value, c.in_ok-firsts.firsts.ok.0) in
    subst (IsOrder laps.component.shape.now laps.component.number) (sym (c.in_ok-in_order-in-Ok.ensures ∙ ap links_in_order (c.deref.ensures.value ∙ with_items_is c.in_ok-firsts.firsts c.note_all.new.firsts count)))
    (is_order laps c.requires c.note_all.new.firsts c.in-Ok.ensures.firsts c.in-Ok.ensures.noted)
