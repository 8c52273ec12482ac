use Rattle.local_tables.specs.Progress.{IsAt}
use Rattle.local_tables.proofs.exploring.follow.Given as goal

abbrev pub invariant-loop-place : goal.invariant-loop-place
invariant-loop-place l = IsAt l.task l.pool l.found l.at l.steps l.place
