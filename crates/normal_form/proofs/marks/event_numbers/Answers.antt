use Rattle.std.proofs.Common.{sym}
use Rattle.normal_form.proofs.Walking.{walk_step, walk_end}
use Rattle.normal_form.proofs.marks.event_numbers.Goals as goal

pub loop-event-preserved : goal.loop-event-preserved
loop-event-preserved c = walk_step c.loop-event.numbers c.in-Some.event c.event.inside.0 _ _ _ _ c.in-Some.ensures.steps c.loop-event.invariant (sym c.event.view_is) c.in_ok-push.ensures.ok

pub returns : goal.returns
returns c = walk_end _ _ _ c.in-None.ensures.steps.0 c.loop-event.invariant
