use Rattle.std.proofs.Common.{arith}
use Rattle.value_operators.proofs.Faults.{passed}
use Rattle.value_operators.proofs.SetSteps.{constants_left, list_fault}
use Rattle.value_operators.proofs.sets.constants.Goals as goal

pub returns-in_err-atoms : goal.returns-in_err-atoms
returns-in_err-atoms c =
    passed _ _ _ _ c.from_residual.ensures.1 c.in_err-atoms.ensures
    (λ k e. list_fault _ _ _ _ _ k c.loop-number.invariant (constants_left c.args.numbers.now c.loop-number.number-index (omega arith)) e)
