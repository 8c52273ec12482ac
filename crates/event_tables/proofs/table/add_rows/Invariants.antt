use Rattle.event_tables.proofs.Prelude.{◌≡◌, ◌++◌, length, map, into_iter_items, into_iter_len, event_of}
use Rattle.event_tables.proofs.table.add_rows.Given as goal

abbrev pub invariant-loop-fields : goal.invariant-loop-fields
invariant-loop-fields l = record {
  so_far : l.events ++ map (event_of l.c) (into_iter_items l.fields-iterator) ≡ l.initial.events ++ map (event_of l.c) l.fn.rows.items;
  len : into_iter_len l.fields-iterator ≡ length (into_iter_items l.fields-iterator);
}
