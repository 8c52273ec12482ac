use Rattle.name_faults.specs.Depths.{AreWithin}
use Rattle.name_faults.proofs.depths.depths_of.Given as goal

abbrev pub invariant-loop-round : goal.invariant-loop-round
invariant-loop-round l = AreWithin l.limit l._round l.bodies l.depths.items
