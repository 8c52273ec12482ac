use Rattle.step_values.proofs.Prelude.{◌≡◌, ◌++◌, map, take, One, literals, Lit}
use Rattle.step_values.proofs.renamed.literals_then.Given as goal

abbrev pub invariant-loop-atom : goal.invariant-loop-atom
invariant-loop-atom l = l.made ≡ literals l.values ++ map (λ a. Lit (One a)) (take l.atom-index l.atoms)
