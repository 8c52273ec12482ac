use Rattle.conformance.proofs.Prelude.{◌≡◌, ◌++◌, drop, slice_index, flat_map, event_code}
use Rattle.conformance.proofs.keys.add_set.Given as goal

abbrev pub invariant-loop-event : goal.invariant-loop-event
invariant-loop-event l = l.key ++ flat_map (event_code (slice_index l.places)) (drop l.event-index l.event-items) ≡ l.initial.key ++ flat_map (event_code (slice_index l.places)) l.event-items
