use Rattle.std.proofs.Common.{◌-◌, length}
use Rattle.digraph.proofs.Reaching.{IsSearched}
use Rattle.digraph.proofs.reach.add_reached.Given as goal

abbrev pub invariant-loop-place : goal.invariant-loop-place
invariant-loop-place l = IsSearched l.rows l.sources l.found l.place

abbrev pub decreases-loop-place : goal.decreases-loop-place
decreases-loop-place l = length l.rows - l.place
