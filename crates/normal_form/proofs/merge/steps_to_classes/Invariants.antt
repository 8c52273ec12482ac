use Rattle.std.proofs.Common.{◌≡◌, ◌++◌, drop}
use Rattle.normal_form.proofs.MergedRuns.{in_classes}
use Rattle.normal_form.proofs.merge.steps_to_classes.Given as goal

abbrev pub invariant-loop-event : goal.invariant-loop-event
invariant-loop-event l = l.made.items ++ in_classes l.classes (drop l.event-index l.steps) ≡ in_classes l.classes l.steps
