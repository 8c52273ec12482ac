use Rattle.csp_steps.proofs.SetLemmas.{set_known}
use Rattle.csp_steps.proofs.sets.set_of.Goals as goal

pub returns-in-Some : goal.returns-in-Some
returns-in-Some c = set_known c.args.program.now c.args.sets.now c.in-Some.number c.args.expr.now c.requires c.in-Some.ensures.found
