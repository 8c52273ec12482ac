use Rattle.std.proofs.Common.{◌≡◌, drop}
use Rattle.csp_program.specs.EventTable as meant
use Rattle.event_tables.proofs.RowLaws.{under}
use Rattle.event_tables.proofs.rows.rows.Given as goal

abbrev pub invariant-loop-set : goal.invariant-loop-set
invariant-loop-set l = under l.made.items (meant.rows (drop l.set-index l.sets)) ≡ meant.rows l.sets
