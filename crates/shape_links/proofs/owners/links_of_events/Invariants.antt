use Rattle.shape_links.proofs.Links.{AreOwnersBelow}
use Rattle.shape_links.proofs.owners.links_of_events.Given as goal

abbrev pub invariant-loop-l : goal.invariant-loop-l
invariant-loop-l l = AreOwnersBelow l.shape l.l l.owners.items
