use Rattle.event_tables.proofs.Prelude.{◌≡◌, ◌<◌, ◌^◌, ◌++◌, length, drop, into_iter_items, into_iter_len, events_left, lent, with_sets}
use Rattle.event_tables.proofs.filled.with_sets.Given as goal

abbrev pub invariant-loop-channel : goal.invariant-loop-channel
invariant-loop-channel l = record {
  so_far : l.made ++ with_sets l.first (into_iter_items l.channel-iterator) (drop (length l.made) (lent l.all)) ≡ with_sets 0 l.fn.channels (lent l.all);
  few : events_left l.first l.made (lent l.all) < 2 ^ 32;
  len : into_iter_len l.channel-iterator ≡ length (into_iter_items l.channel-iterator);
}
