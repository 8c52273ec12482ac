use Rattle.determinise.proofs.Prelude.{◌-◌, ◌≤◌, length, IsReady, AreNodesSoFar, AreReachedSets, MOST_SETS}
use Rattle.determinise.proofs.explore.explore.Given as goal

abbrev pub invariant-loop-alloc : goal.invariant-loop-alloc
invariant-loop-alloc l = record {
  so_far : AreNodesSoFar l.table l.sets l.nodes.items;
  reached : AreReachedSets l.table l.sets;
  few : length l.sets ≤ MOST_SETS;
  ready : IsReady l.table l.sets l.known;
}

abbrev pub decreases-loop-alloc : goal.decreases-loop-alloc
decreases-loop-alloc l = MOST_SETS - length l.nodes.items
