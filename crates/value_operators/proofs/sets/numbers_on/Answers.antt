use Rattle.value_operators.proofs.Prelude.{arith, ints}
use Rattle.value_operators.proofs.SetSteps.{number_fault, number_next}
use Rattle.value_operators.proofs.sets.numbers_on.Goals as goal

pub returns-in_err-atoms : goal.returns-in_err-atoms
returns-in_err-atoms c =
    number_fault _ _ _ _ _ _ _ _ c.loop-place.invariant c.number_at-one.ensures (omega (arith, ints)) (omega arith) c.from_residual.ensures.1 c.in_err-atoms.ensures

pub loop-place-preserved : goal.loop-place-preserved
loop-place-preserved c = number_next _ _ _ _ _ _ c.loop-place.invariant c.number_at-one.ensures (omega (arith, ints)) (omega arith) c.in_ok-atoms.ensures
