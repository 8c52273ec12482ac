use Rattle.numbered_walks.proofs.Owning.{AreAdded}
use Rattle.numbered_walks.proofs.owners.add_owner.Given as goal

abbrev pub invariant-loop-event : goal.invariant-loop-event
invariant-loop-event l = AreAdded l.owner l.initial.rows.items l.rows.items l.alphabet l.event-iterator
