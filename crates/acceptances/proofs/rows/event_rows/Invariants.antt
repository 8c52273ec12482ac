use Rattle.acceptances.proofs.RowLists.{AreRowsSoFar}
use Rattle.acceptances.proofs.rows.event_rows.Given as goal

abbrev pub invariant-loop-place : goal.invariant-loop-place
invariant-loop-place l = AreRowsSoFar l.sets l.place l.rows.items
