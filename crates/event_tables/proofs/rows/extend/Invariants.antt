use Rattle.event_tables.proofs.Prelude.{◌≡◌, ◌++◌, length, into_iter_items, into_iter_len, extended}
use Rattle.event_tables.proofs.rows.extend.Given as goal

abbrev pub invariant-loop-row : goal.invariant-loop-row
invariant-loop-row l = record {
  so_far : l.made.items ++ extended (into_iter_items l.row-iterator) l.set ≡ extended l.fn.rows.items l.set;
  len : into_iter_len l.row-iterator ≡ length (into_iter_items l.row-iterator);
}
