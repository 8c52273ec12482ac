use Rattle.csp_base.specs.Members.{has}
use Rattle.definition_kinds.proofs.FoundLaws.{AreMarks}
use Rattle.definition_kinds.proofs.leading.marks_of.Given as goal

abbrev pub invariant-loop-d : goal.invariant-loop-d
invariant-loop-d l = AreMarks l.marks.items l.d (has l.found)
