use Rattle.report.proofs.Prelude.{◌≡◌, ◌++◌, take, more_events_text}
use Rattle.report.proofs.lines.push_more.Given as goal

abbrev pub invariant-loop-event : goal.invariant-loop-event
invariant-loop-event l = l.report ≡ l.fn.report ++ more_events_text l.content (take l.event-index l.events)
