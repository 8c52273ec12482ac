use Rattle.csp_steps.proofs.Walking.{number_next}
use Rattle.csp_steps.proofs.walk.number_of.Goals as goal

pub loop-value-preserved : goal.loop-value-preserved
loop-value-preserved c =
    number_next c.args.values.now c.loop-value.value-index (record { place = 0; count = 0 }) c.loop-value.number c.number_with_value-number.result c.loop-value-test.true c.loop-value.invariant
    c.number_with_value-number.ensures
