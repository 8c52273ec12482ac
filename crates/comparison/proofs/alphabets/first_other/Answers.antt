use Rattle.comparison.proofs.Prelude.{arith, alphabets}
use Rattle.comparison.proofs.Lists.{as_many_alphabets, same_before}
use Rattle.comparison.proofs.alphabets.first_other.Goals as goal

pub returns-clause-same : goal.returns-clause-same
returns-clause-same c =
    let seats = c.args.seats.now in
    let others = c.args.others.now in
    let most = c.most_seats-component-end.ensures in
    same_before (alphabets seats) (alphabets others) c.loop-component.component
    (omega (arith, as_many_alphabets seats, most.first, c.loop-component-test.false, c.loop-component.auto.component-end))
    (omega (arith, as_many_alphabets others, most.second, c.loop-component-test.false, c.loop-component.auto.component-end))
    c.loop-component.invariant
