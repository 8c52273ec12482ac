use Rattle.conformance.specs.Finding.{AreInside}
use Rattle.conformance.proofs.conforming.outside_place.Given as goal

abbrev pub invariant-loop-place : goal.invariant-loop-place
invariant-loop-place l = AreInside l.specified.table l.pairs l.place
