use Rattle.value_laws.proofs.Fits.{program_fits}
use Rattle.csp_values.proofs.fitting.Fitting.of.Goals as goal

pub invariant_of-result : goal.invariant_of-result
invariant_of-result c = program_fits c.content.result.now c.content.ensures.in_order
