use Rattle.definition_kinds.specs.Found.{AreFound}
use Rattle.definition_kinds.proofs.kinds.kinds_found.Given as goal

abbrev pub invariant-loop-d : goal.invariant-loop-d
invariant-loop-d l = AreFound l.found l.d l.kinds.items
