use Rattle.equal_futures.specs.Arrows.{AreIncoming}
use Rattle.equal_futures.proofs.splitters.incoming_rows.Given as goal

abbrev pub invariant-loop-source : goal.invariant-loop-source
invariant-loop-source l = AreIncoming l.nodes l.rows.items l.source
