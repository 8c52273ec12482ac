use Rattle.network_stages.proofs.Prelude.{◌-◌, List, length, Part, AreLinksBefore, IsRow}
use Rattle.network_stages.proofs.Linking.{AreLinksTo}
use Rattle.network_stages.proofs.links.add_links.Given as goal

abbrev pub invariant-loop-start : goal.invariant-loop-start
invariant-loop-start l = (parts : List Part) → IsRow parts (length parts) l.left l.row → AreLinksBefore parts l.left 0 l.initial.links.items → AreLinksTo parts l.left l.row l.start l.links.items

abbrev pub decreases-loop-start : goal.decreases-loop-start
decreases-loop-start l = length l.row - l.start
