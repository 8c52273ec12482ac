use Rattle.comparison.specs.Conforming.{ConformBefore}
use Rattle.comparison.proofs.conforming.check_parts.Given as goal

abbrev pub invariant-loop-place : goal.invariant-loop-place
invariant-loop-place l = ConformBefore l.parts l.specified l.place
