use Rattle.typed_trees.proofs.Prelude.{◌+◌, ◌*◌, max}
use Rattle.csp_text.proofs.tree.Tree.TheLaws.{the_size}
use Rattle.typed_trees.proofs.walk.Walk.+typed_net.Given as goal

-- how deep what is left is, three for each level: a tree on the heap comes above what stands in it, and a form above
-- that
abbrev pub decreases-network : goal.decreases-network
decreases-network l = 3 * the_size l.tree.now

abbrev pub decreases-box_net : goal.decreases-box_net
decreases-box_net l = 3 * the_size l.tree.now + 1

abbrev pub decreases-net_choice : goal.decreases-net_choice
decreases-net_choice l = 3 * max (the_size l.p.now) (the_size l.q.now) + 2

abbrev pub decreases-net_pair : goal.decreases-net_pair
decreases-net_pair l = 3 * max (the_size l.p.now) (the_size l.q.now) + 2

abbrev pub decreases-each : goal.decreases-each
decreases-each l = 3 * the_size l.p.now + 2
