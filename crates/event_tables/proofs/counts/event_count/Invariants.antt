use Rattle.event_tables.proofs.Prelude.{◌≡◌, ◌≤◌, ◌+◌, ◌-◌, ◌^◌, min, drop, spread, all_events}
use Rattle.event_tables.proofs.counts.event_count.Given as goal

abbrev pub invariant-loop-one : goal.invariant-loop-one
invariant-loop-one l = record {
  within : l.count ≤ 2 ^ 64 - 1;
  so_far : min (l.count + all_events (spread (drop l.one-index l.shared))) (2 ^ 64 - 1) ≡ min (all_events (spread l.shared)) (2 ^ 64 - 1);
}
