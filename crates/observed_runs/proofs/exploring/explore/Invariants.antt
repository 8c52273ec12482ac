use Rattle.observed_runs.proofs.Prelude.{◌<◌, ◌≤◌, ◌-◌, ◌^◌, ℕ, length, AreExplored, AreFollowed}
use Rattle.observed_runs.proofs.exploring.explore.Given as goal

abbrev pub invariant-loop-place : goal.invariant-loop-place
invariant-loop-place g l = record {
  explored : AreExplored l.part.table (g.O.Observer.step l.observer) l.found;
  followed : (k : ℕ) → k < l.place → AreFollowed l.part.table (g.O.Observer.step l.observer) l.found.pairs k;
  within : l.place ≤ length l.found.pairs;
}

abbrev pub decreases-loop-place : goal.decreases-loop-place
decreases-loop-place g l = 2 ^ 64 - l.place
