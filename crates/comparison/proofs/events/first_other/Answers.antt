use Rattle.comparison.proofs.Prelude.{arith, printed_events}
use Rattle.comparison.proofs.Lists.{as_many_events, same_before}
use Rattle.comparison.proofs.events.first_other.Goals as goal

pub returns-clause-same : goal.returns-clause-same
returns-clause-same c =
    let p = c.args.program.now in
    let q = c.args.other.now in
    let most = c.most_events-number-end.ensures in
    same_before (printed_events p) (printed_events q) c.loop-number.number
    (omega (arith, as_many_events p, most.first, c.loop-number-test.false, c.loop-number.auto.number-end))
    (omega (arith, as_many_events q, most.second, c.loop-number-test.false, c.loop-number.auto.number-end))
    c.loop-number.invariant
