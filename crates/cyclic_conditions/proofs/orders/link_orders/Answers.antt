use Rattle.cyclic_conditions.proofs.Prelude.{◌≡◌, length, ap, sym, subst, arith, inl, inr, cases_lt, err_from_is_err_and, IfErr, Tells, Shape, Part, KeepsPlaces, BreaksCyclic, IsBrokenOrder}
use Rattle.cyclic_conditions.proofs.LapPlaces.{breaks_there, orders_more}
use Rattle.cyclic_conditions.proofs.orders.link_orders.Goals as goal

pub returns-in_err-add_order-clause-fault : goal.returns-in_err-add_order-clause-fault
returns-in_err-add_order-clause-fault c =
    let w = err_from_is_err_and c.from_residual.result c.from_residual.ensures.1 in
    subst (λ r. IfErr r (Tells (BreaksCyclic c.args.sorted.now))) (sym w.1)
    (breaks_there c.args.sorted.now c.loop-part.part w.0 (λ j h. c.loop-part.invariant.keep j h) (subst (Tells (IsBrokenOrder c.args.sorted.now c.loop-part.part)) (sym w.2) c.in_err-add_order.ensures.fault))

pub loop-part-preserved : goal.loop-part-preserved
loop-part-preserved c =
    let part = c.loop-part.part in
    let i = c.loop-part.invariant in
    let more = let o = c.in_ok-add_order.ensures.order in orders_more c.args.sorted.now c.loop-part.part c.loop-part.orders.items o.0 c.add_order.new.orders.items i.count i.each o.1 o.2 in
    record {
      count = more.0;
      keep = λ j h. elim (cases_lt j part) as (λ _. KeepsPlaces c.args.sorted.now j) [
        | inl old ↦ i.keep j old
        | inr now ↦ let same : part ≡ j = omega arith in subst (KeepsPlaces c.args.sorted.now) same c.in_ok-add_order.ensures.keeps
      ];
      each = more.1;
    }

pub returns-clause-keep : goal.returns-clause-keep
returns-clause-keep c i h = c.loop-part.invariant.keep i (omega (arith, c.loop-part-test.false, ap (length {A = Part}) c.parts-count.ensures.value, ap (λ (s : Shape). length s.parts) c.shape.ensures.value))
