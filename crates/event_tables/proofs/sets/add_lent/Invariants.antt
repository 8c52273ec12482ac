use Rattle.event_tables.proofs.Prelude.{◌≡◌, ◌++◌, replicate, lent}
use Rattle.event_tables.proofs.sets.add_lent.Given as goal

abbrev pub invariant-loop-channel : goal.invariant-loop-channel
invariant-loop-channel l = lent l.all.items ≡ lent l.initial.all.items ++ replicate l._channel l.one.sets
