use Rattle.hidden_bounds.proofs.Prelude.{◌≡◌, ◌+◌, ◌<◌, ◌≤◌, length, take, ap, refl, sym, arith, shared_bounds, sum_before, alphabet_at, taken_in}
use Rattle.hidden_bounds.proofs.Sums.{next_shared, shared_fits, within_read}
use Rattle.hidden_bounds.proofs.Taken.{none_taken}
use Rattle.hidden_bounds.proofs.bounding.shared_bounds.Goals as goal

pub loop-place-init : goal.loop-place-init
loop-place-init c = ap (shared_bounds c.args.scope.now.hidden.now (alphabet_at c.args.scope.now.seats.now c.args.part)) (sym (none_taken c.args.scope.now.seats.now))

pub shares-requires : goal.shares-requires
shares-requires c =
    let below : c.loop-place.place < length c.args.order.now = (let few = c.requires.fewer in omega arith) in
    within_read _ c.args.order.now c.loop-place.place _ c.requires.within below

pub loop-place-preserved : goal.loop-place-preserved
loop-place-preserved c =
    next_shared c.args.scope.now.hidden.now c.args.scope.now.seats.now c.args.order.now c.args.bounds.now (alphabet_at c.args.scope.now.seats.now c.args.part) c.in_ok-events.events c.loop-place.place
    c.loop-place.total c.number_if-number.result _ _ c.shares.result c.requires.bounds c.requires.fewer c.loop-place-test.true refl c.in_ok-events.ensures c.shares.ensures c.number_if-number.ensures
    c.loop-place.invariant

pub overflow_add-total : goal.overflow_add-total
overflow_add-total c =
    let few = c.requires.fewer in
    let sum : c.loop-place.total + c.number_if-number.result
    ≡ shared_bounds c.args.scope.now.hidden.now (alphabet_at c.args.scope.now.seats.now c.args.part) (taken_in c.args.scope.now.seats.now (take (c.loop-place.place + 1) c.args.order.now)) =
    next_shared c.args.scope.now.hidden.now c.args.scope.now.seats.now c.args.order.now c.args.bounds.now (alphabet_at c.args.scope.now.seats.now c.args.part) c.in_ok-events.events c.loop-place.place
    c.loop-place.total c.number_if-number.result _ _ c.shares.result c.requires.bounds c.requires.fewer c.loop-place-test.true refl c.in_ok-events.ensures c.shares.ensures c.number_if-number.ensures
    c.loop-place.invariant in
    let below = c.loop-place-test.true in
    let le : shared_bounds c.args.scope.now.hidden.now (alphabet_at c.args.scope.now.seats.now c.args.part) (taken_in c.args.scope.now.seats.now (take (c.loop-place.place + 1) c.args.order.now))
    ≤ sum_before c.args.scope.now.hidden.now c.args.scope.now.seats.now c.args.order.now (length c.args.bounds.now) =
    shared_fits c.args.scope.now.hidden.now c.args.scope.now.seats.now c.args.order.now (alphabet_at c.args.scope.now.seats.now c.args.part) (c.loop-place.place + 1) (length c.args.bounds.now) (omega arith) in
    let fits = c.requires.fits in
    omega (arith, sum, le, fits)
