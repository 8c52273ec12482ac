use Rattle.hidden_bounds.proofs.Prelude.{◌*◌, ◌^◌, ◌<◌, ◌≤◌, suc, length, get_or, ap, subst, ◌∙◌, Placed}
use Rattle.hidden_bounds.proofs.Sums.{none_then, own_passes, some_then, sum_fits, sum_passes, within_read}
use Rattle.hidden_bounds.proofs.bounding.next_sum.Goals as goal

-- what stands where none does
abbrev nobody : Placed
nobody = record { part = 0; height = 0 }

pub shared_bounds-requires-clause-part : goal.shared_bounds-requires-clause-part
shared_bounds-requires-clause-part c = within_read _ c.args.order.now (length c.args.bounds.now) _ c.requires.within c.requires.next

pub shared_bounds-requires-clause-fits : goal.shared_bounds-requires-clause-fits
shared_bounds-requires-clause-fits c = subst (λ n. n < 18446744073709551616) c.requires.total c.ranges.total.fits

pub returns-in-Some-clause-some : goal.returns-in-Some-clause-some
returns-in-Some-clause-some c =
    some_then c.with_sum.result _ _ c.with_sum.ensures.some (λ made is.
    sum_fits c.args.scope.now.hidden.now c.args.scope.now.seats.now c.args.order.now (length c.args.bounds.now) nobody c.requires.next c.args.total c.requires.total c.in-Some.bound made.0 made.1
    (c.in-Some.ensures.some ∙ ap (λ shared. (get_or c.args.order.now (length c.args.bounds.now) nobody).height * suc shared) c.in_ok-shared.ensures) is.0 is.1)

pub returns-in-Some-clause-none : goal.returns-in-Some-clause-none
returns-in-Some-clause-none c =
    none_then c.with_sum.result _ _ c.with_sum.ensures.none (λ great.
    sum_passes c.args.scope.now.hidden.now c.args.scope.now.seats.now c.args.order.now (length c.args.bounds.now) nobody c.requires.next c.args.total c.requires.total c.in-Some.bound c.ranges.total.fits
    (c.in-Some.ensures.some ∙ ap (λ shared. (get_or c.args.order.now (length c.args.bounds.now) nobody).height * suc shared) c.in_ok-shared.ensures) great)

pub returns-in-None-clause-none : goal.returns-in-None-clause-none
returns-in-None-clause-none c =
    own_passes c.args.scope.now.hidden.now c.args.scope.now.seats.now c.args.order.now (length c.args.bounds.now) nobody c.requires.next c.args.total c.requires.total c.ranges.total.fits
    (subst (λ shared. 2 ^ 64 ≤ (get_or c.args.order.now (length c.args.bounds.now) nobody).height * suc shared) c.in_ok-shared.ensures c.in-None.ensures.none)
