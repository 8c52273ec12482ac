use Rattle.observed_runs.specs.Progress.{AreEnoughSoFar}
use Rattle.observed_runs.proofs.steps.enough.Given as goal

abbrev pub invariant-loop-step : goal.invariant-loop-step
invariant-loop-step l = AreEnoughSoFar l.events l.mark l.next l.step-index l.some l.marks
