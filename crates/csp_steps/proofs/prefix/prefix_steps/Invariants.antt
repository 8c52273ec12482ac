use Rattle.csp_steps.proofs.Prelude.{◌≡◌, true, [], length, IsFront, tree_at, all_within, AreSets, filled, walk_moves, walk_weight, ways_by_number, IsSound}
use Rattle.csp_steps.proofs.prefix.prefix_steps.Given as goal

-- the walk still comes to the same steps
abbrev pub invariant-turns : goal.invariant-turns
invariant-turns l = record {
  front : IsFront l.initial.pool l.pool;
  sound : IsSound l.walk;
  sets : AreSets l.filling.program.now l.sets;
  within : all_within (length l.pool) l.steps ≡ true;
  moves : filled [] l.filling.start.now.first (tree_at l.initial.pool l.filling.to) (ways_by_number l.filling.program.now l.filling.start.now.sets.now l.fields [] 0) ≡ walk_moves l.filling.program.now l.filling.start.now.first l.filling.to l.pool l.walk l.steps;
}

abbrev pub decreases-turns : goal.decreases-turns
decreases-turns l = walk_weight l.walk
