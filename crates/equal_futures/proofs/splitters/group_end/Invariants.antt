use Rattle.equal_futures.proofs.Prelude.{◌≡◌, ℕ, ◌<◌, ◌≤◌, ◌-◌, length, event_at}
use Rattle.equal_futures.proofs.splitters.group_end.Given as goal

abbrev pub invariant-loop-to : goal.invariant-loop-to
invariant-loop-to l = record {
  after : l.from < l.to;
  within : l.to ≤ length l.steps;
  same : (k : ℕ) → l.from ≤ k → k < l.to → event_at l.steps k ≡ event_at l.steps l.from;
}

abbrev pub decreases-loop-to : goal.decreases-loop-to
decreases-loop-to l = length l.steps - l.to
