use Rattle.event_tables.proofs.Prelude.{◌≡◌, ◌++◌, drop, event_table, events_from_channel}
use Rattle.event_tables.proofs.table.event_table.Given as goal

abbrev pub invariant-loop-channel : goal.invariant-loop-channel
invariant-loop-channel l = record {
  so_far : l.events ++ events_from_channel l.c (drop l.channel-index l.channels) ≡ event_table l.channels;
  counted : l.c ≡ l.channel-index;
}
