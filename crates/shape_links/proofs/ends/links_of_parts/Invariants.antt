use Rattle.shape_links.specs.Links.{AreEnds}
use Rattle.shape_links.proofs.ends.links_of_parts.Given as goal

abbrev pub invariant-loop-l : goal.invariant-loop-l
invariant-loop-l l = AreEnds l.shape l.l l.ends.items
