use Rattle.numbered_walks.proofs.Prelude.{◌≡◌, ◌-◌, ◌≤◌, ℕ, Some, slice_get, subst, arith, mark_count, marked}
use Rattle.numbered_walks.proofs.Optioning.{event_option}
use Rattle.numbered_walks.proofs.standing.option_at.Goals as goal

pub returns-else-place-silent : goal.returns-else-place-silent
returns-else-place-silent c =
    let count = c.count-silent.ensures.count in
    let low : mark_count c.args.restless.now ≤ c.args.place = (let past = c.if-place-silent.false in omega (arith, count, past)) in
    event_option c.args.restless.now c.args.agreed.now c.args.place c.nth-else-place-silent.result low
    (subst (λ (n : ℕ). slice_get (marked c.args.agreed.now) (c.args.place - n) ≡ Some c.nth-else-place-silent.result) count c.nth-else-place-silent.ensures.marked)
