use Rattle.equal_futures.proofs.Prelude.{take, AreAdded}
use Rattle.equal_futures.proofs.splitters.add_steps.Given as goal

abbrev pub invariant-loop-event : goal.invariant-loop-event
invariant-loop-event l = AreAdded l.initial.rows.items l.rows.items l.source (take l.event-index l.event-items)
