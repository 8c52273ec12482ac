use Rattle.conformance.proofs.Searching.{found_within}
use Rattle.conformance.proofs.steps.is_found.Goals as goal

pub returns-in-Ok : goal.returns-in-Ok
returns-in-Ok c h = found_within c.args.others.now c.args.set.now c.in-Ok.field-0 c.in-Ok.ensures.bound c.in-Ok.ensures.ok
