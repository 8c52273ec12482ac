use Rattle.conformance.proofs.Prelude.{◌≡◌, ◌++◌, drop, slice_index, flat_map, step_code}
use Rattle.conformance.proofs.keys.add_steps.Given as goal

abbrev pub invariant-loop-event : goal.invariant-loop-event
invariant-loop-event l = l.key ++ flat_map (step_code (slice_index l.places)) (drop l.event-index l.steps) ≡ l.initial.key ++ flat_map (step_code (slice_index l.places)) l.steps
