use Rattle.std.proofs.Common.{◌≡◌, ◌++◌}
use Rattle.conformance.proofs.keys.events_of.Given as goal

abbrev pub invariant-loop-event : goal.invariant-loop-event
invariant-loop-event l = l.events ++ l.event-iterator ≡ l.set
