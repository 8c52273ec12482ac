use Rattle.value_operators.proofs.Prelude.{◌≡◌, [], map, drop, all_added}
use Rattle.csp_atoms.specs.declared.atom.Atom.TheVariants as atom
use Rattle.value_operators.proofs.sets.constants.Given as goal

-- what is left is still to be added
abbrev pub invariant-loop-number : goal.invariant-loop-number
invariant-loop-number l = all_added [] (map (λ k. atom.Const k) l.numbers) ≡ all_added l.atoms (map (λ k. atom.Const k) (drop l.number-index l.numbers))
