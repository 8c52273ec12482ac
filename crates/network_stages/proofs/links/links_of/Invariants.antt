use Rattle.network_stages.proofs.Prelude.{List, length, Part, AreLinksBefore, AreRows}
use Rattle.network_stages.proofs.links.links_of.Given as goal

abbrev pub invariant-loop-left : goal.invariant-loop-left
invariant-loop-left l = (parts : List Part) → AreRows parts (length parts) l.rows → AreLinksBefore parts l.left 0 l.made.items
