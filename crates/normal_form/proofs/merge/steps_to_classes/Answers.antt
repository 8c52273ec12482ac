use Rattle.normal_form.proofs.Prelude.{refl, read_below}
use Rattle.normal_form.proofs.merge.steps_to_classes.Goals as goal

pub bounds-classes-to : goal.bounds-classes-to
bounds-classes-to c = read_below _ c.args.steps.now c.args.steps.now refl c.requires c.loop-event.event-index c.loop-event-item.result c.loop-event-test.true c.loop-event-item.is
