use Rattle.step_values.proofs.ChannelEvents.{event_start}
use Rattle.step_values.proofs.heads.of_atom.Goals as goal

pub returns-in-Event : goal.returns-in-Event
returns-in-Event c = λ p. event_start p c.args.atom c.in-Event.event c.in-Event.is _ c.of_event.ensures.first c.of_event.ensures.few c.of_event.ensures.sets
