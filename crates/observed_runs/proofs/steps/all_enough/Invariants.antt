use Rattle.observed_runs.proofs.Prelude.{◌≡◌, ◌<◌, ◌≤◌, ℕ, [], length, get_or, slice_index, node_at, AreEnough}
use Rattle.observed_runs.proofs.steps.all_enough.Given as goal

abbrev pub invariant-loop-number : goal.invariant-loop-number
invariant-loop-number l = record {
  count : length l.rows ≡ l.number;
  each : (n : ℕ) → n < l.number → AreEnough l.events (node_at l.part.table n).next (get_or l.rows n []);
  marks_are : (node : ℕ) → slice_index l.marks node ≤ l.number;
}
