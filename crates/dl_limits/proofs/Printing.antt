-- A tree that is printed has room for its brackets.
use Rattle.std.proofs.Common.{◌*◌, ◌≤◌, arith}
use Rattle.dl_limits.specs.declared.TheConstants.{MOST_BRACKETS, MOST_TREE_DEPTH}

-- at most two brackets stand around each node of a tree, one inside another
pub trees_fit : 2 * MOST_TREE_DEPTH ≤ MOST_BRACKETS
trees_fit = omega arith
