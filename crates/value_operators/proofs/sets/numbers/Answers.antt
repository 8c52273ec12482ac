use Rattle.value_operators.proofs.Prelude.{arith, to_z, of_z, w64, ints}
use Rattle.value_operators.proofs.SetSteps.{range_far, range_near}
use Rattle.value_operators.proofs.sets.numbers.Goals as goal

pub returns-in-None : goal.returns-in-None
returns-in-None c =
    range_far c.args.first c.args.last (to_z w64 (of_z w64 c.args.first)) (to_z w64 (of_z w64 c.args.last)) (omega (arith, ints)) (omega (arith, ints)) c.in-None.ensures

pub returns-in-Some : goal.returns-in-Some
returns-in-Some c =
    range_near _ c.args.first c.args.last _ _ _ (omega (arith, ints)) (omega (arith, ints)) c.in-Some.ensures.0 c.in-Some.ensures.1 c.numbers_on.ensures
