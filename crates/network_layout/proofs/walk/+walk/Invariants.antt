use Rattle.network_layout.proofs.Prelude.{◌+◌, ◌*◌, drop, place_of}
use Rattle.network_layout.proofs.EachSteps.{EachSoFar}
use Rattle.network_layout.proofs.walk.+walk.Given as goal

abbrev pub decreases-walk : goal.decreases-walk
decreases-walk l = 8 * l.scope.now.levels

abbrev pub decreases-walk_call : goal.decreases-walk_call
decreases-walk_call l = 8 * l.scope.now.levels + 2

abbrev pub decreases-walk_body : goal.decreases-walk_body
decreases-walk_body l = 8 * l.scope.now.levels + 1

abbrev pub decreases-walk_if : goal.decreases-walk_if
decreases-walk_if l = 8 * l.scope.now.levels + 1

abbrev pub decreases-walk_operand : goal.decreases-walk_operand
decreases-walk_operand l = 8 * l.scope.now.levels + 1

abbrev pub decreases-walk_pair : goal.decreases-walk_pair
decreases-walk_pair l = 8 * l.scope.now.levels + 2

abbrev pub decreases-walk_one : goal.decreases-walk_one
decreases-walk_one l = 8 * l.scope.now.levels + 2

abbrev pub decreases-walk_at : goal.decreases-walk_at
decreases-walk_at l = 8 * l.scope.now.levels + 3

abbrev pub decreases-walk_each : goal.decreases-walk_each
decreases-walk_each l = 8 * l.scope.now.levels + 4

abbrev pub decreases-walk_set : goal.decreases-walk_set
decreases-walk_set l = 8 * l.scope.now.levels + 5

-- the operands so far are those of the values that were passed
abbrev pub invariant-walk_each-loop-atom : goal.invariant-walk_each-loop-atom
invariant-walk_each-loop-atom l = EachSoFar (place_of l.scope) l.name l.operand l.atoms (drop l.atom-index l.atoms) l.fn.seats l.seats l.joint
