use Rattle.shape_links.specs.Links.{AreSteps}
use Rattle.shape_links.proofs.steps.steps_of_parts.Given as goal

abbrev pub invariant-loop-part : goal.invariant-loop-part
invariant-loop-part l = AreSteps l.shape l.part-index l.steps.items
