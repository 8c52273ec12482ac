use Rattle.step_values.proofs.Prelude.{◌≡◌, take, literals}
use Rattle.step_values.proofs.renamed.literals.Given as goal

abbrev pub invariant-loop-value : goal.invariant-loop-value
invariant-loop-value l = l.made ≡ literals (take l.value-index l.values)
