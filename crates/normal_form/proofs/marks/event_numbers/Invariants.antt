use Rattle.std.proofs.Common.{◌≡◌, ◌++◌}
use Rattle.normal_form.proofs.marks.event_numbers.Given as goal

abbrev pub invariant-loop-event : goal.invariant-loop-event
invariant-loop-event l = l.numbers ++ l.event-iterator ≡ l.set
