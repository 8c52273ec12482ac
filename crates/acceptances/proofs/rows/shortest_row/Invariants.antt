use Rattle.std.proofs.Common.{length}
use Rattle.acceptances.proofs.RowLists.{IsWalked}
use Rattle.acceptances.proofs.rows.shortest_row.Given as goal

abbrev pub invariant-loop-event : goal.invariant-loop-event
invariant-loop-event l = IsWalked (length l.rows) l.set l.event-iterator l.shortest
