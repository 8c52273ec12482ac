use Rattle.std.proofs.Common.{◌≡◌, take}
use Rattle.event_tables.proofs.sets.copy_sets.Given as goal

abbrev pub invariant-loop-set : goal.invariant-loop-set
invariant-loop-set l = l.copies ≡ take l.set-index l.sets
