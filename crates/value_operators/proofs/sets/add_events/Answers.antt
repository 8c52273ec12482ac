use Rattle.value_operators.proofs.Faults.{passed}
use Rattle.value_operators.proofs.SetSteps.{events_left, list_fault, list_next}
use Rattle.std.proofs.Common.{arith}
use Rattle.value_operators.proofs.sets.add_events.Goals as goal

pub returns-in_err-atoms : goal.returns-in_err-atoms
returns-in_err-atoms c =
    passed _ _ _ _ c.from_residual.ensures.1 c.in_err-atoms.ensures
    (λ k e. list_fault _ _ _ _ _ k c.loop-place.invariant (events_left c.args.first c.loop-place.place c.args.count _ (omega arith) c.event-one.ensures) e)

pub loop-place-preserved : goal.loop-place-preserved
loop-place-preserved c =
    list_next _ _ _ _ _ _ c.loop-place.invariant (events_left c.args.first c.loop-place.place c.args.count _ (omega arith) c.event-one.ensures) c.in_ok-atoms.ensures
