use Rattle.csp_steps.proofs.Prelude.{◌≡◌, ◌≤◌, [], length, with_bound, AreSets, IsLonger, number_of, ways_by_number, weight}
use Rattle.csp_steps.proofs.fields.next_of.Given as goal

-- what is left has as many ways as the whole, after the values of the outputs before it
abbrev pub invariant-loop-set : goal.invariant-loop-set
invariant-loop-set l = record {
  same : ways_by_number l.filling.program.now l.turn.sets.now l.turn.fields.now (with_bound l.bound []) (number_of l.initial.values.items)
      ≡ ways_by_number l.filling.program.now l.sets l.fields (with_bound l.bound []) (number_of l.values.items);
  kept : AreSets l.filling.program.now l.kept;
  longer : IsLonger l.initial.values.items l.values.items;
  less : weight l.sets ≤ weight l.turn.sets.now;
}

abbrev pub decreases-loop-set : goal.decreases-loop-set
decreases-loop-set l = length l.sets
