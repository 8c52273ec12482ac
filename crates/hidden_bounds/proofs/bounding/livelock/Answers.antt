use Rattle.hidden_bounds.proofs.Prelude.{◌≡◌, List, ap, subst, sym, ◌∙◌, Tells, ProcessStep, IsTakenFar, TellsSum, taken_in, Placed, hidden_bound}
use Rattle.hidden_bounds.proofs.Finish.{bound_told, fault_told, some_are_left}
use Rattle.hidden_bounds.proofs.bounding.livelock.Goals as goal

pub order_of-requires : goal.order_of-requires
order_of-requires c = record { tables = c.requires.tables; few = c.requires.few }

pub returns-then-not-is_empty-clause-told : goal.returns-then-not-is_empty-clause-told
returns-then-not-is_empty-clause-told c =
    let far = subst (IsTakenFar (ProcessStep c.args.program.now) c.args.hidden.now c.args.seats.now c.in_ok-order.order.items) (sym c.from_vec-parts.ensures) c.in_ok-order.ensures in
    some_are_left (ProcessStep c.args.program.now) c.args.hidden.now c.args.seats.now c.in_ok-order.order.items c.from_vec-parts.result far c.is_empty.result c.is_empty.ensures c.if-not-is_empty.true

pub returns-in_err-bound-clause-told : goal.returns-in_err-bound-clause-told
returns-in_err-bound-clause-told c =
    let far = subst (IsTakenFar (ProcessStep c.args.program.now) c.args.hidden.now c.args.seats.now c.in_ok-order.order.items) (sym c.from_vec-parts.ensures) c.in_ok-order.ensures in
    let tells = subst (λ (o : List Placed). Tells (TellsSum c.args.hidden.now c.args.seats.now o) c.in_err-bound.field-0.0) c.as_slice.ensures.value c.in_err-bound.ensures.told in
    fault_told (ProcessStep c.args.program.now) c.args.hidden.now c.args.seats.now c.from_residual-in_err-bound.result c.in_ok-order.order.items c.from_vec-parts.result c.in_err-bound.field-0.0 c.is_empty.result
    c.from_residual-in_err-bound.ensures.1 far c.is_empty.ensures c.if-not-is_empty.false tells

pub returns-clause-bound : goal.returns-clause-bound
returns-clause-bound c =
    let far = subst (IsTakenFar (ProcessStep c.args.program.now) c.args.hidden.now c.args.seats.now c.in_ok-order.order.items) (sym c.from_vec-parts.ensures) c.in_ok-order.ensures in
    let sum_is : c.in_ok-bound.bound ≡ hidden_bound c.args.hidden.now (taken_in c.args.seats.now c.in_ok-order.order.items) =
    c.in_ok-bound.ensures.total ∙ ap (λ (o : List Placed). hidden_bound c.args.hidden.now (taken_in c.args.seats.now o)) c.as_slice.ensures.value in
    bound_told (ProcessStep c.args.program.now) c.args.hidden.now c.args.seats.now c.in_ok-order.order.items c.from_vec-parts.result
    (record { order = c.from_vec.result; bound = c.in_ok-bound.bound }) c.is_empty.result far c.is_empty.ensures c.if-not-is_empty.false c.from_vec.ensures sum_is
