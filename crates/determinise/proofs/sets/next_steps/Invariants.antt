use Rattle.determinise.proofs.Prelude.{◌-◌, length, IsReady}
use Rattle.determinise.proofs.NodeSteps.{AreStepsSoFar}
use Rattle.determinise.proofs.sets.next_steps.Given as goal

abbrev pub invariant-loop-at : goal.invariant-loop-at
invariant-loop-at l = record {
  steps : AreStepsSoFar l.table l.moves l.at l.initial.sets l.sets l.next.items;
  ready : IsReady l.table l.sets l.known;
}

abbrev pub decreases-loop-at : goal.decreases-loop-at
decreases-loop-at l = length l.moves - l.at
