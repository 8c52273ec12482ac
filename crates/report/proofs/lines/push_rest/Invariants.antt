use Rattle.report.proofs.Prelude.{◌≡◌, ◌++◌, more_events_text}
use Rattle.report.proofs.lines.push_rest.Given as goal

abbrev pub invariant-loop-event : goal.invariant-loop-event
invariant-loop-event l = l.report ++ more_events_text l.content l.event-iterator ≡ l.fn.report ++ more_events_text l.content l.fn.members
