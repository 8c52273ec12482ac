use Rattle.substitution.proofs.Prelude.{◌≡◌, ◌++◌, drop, map, given_by, pair_with}
use Rattle.substitution.proofs.fields.replace_pairs.Given as goal

-- what is made so far, followed by what is made of the rest, is what is made of all
abbrev pub invariant-loop-pair : goal.invariant-loop-pair
invariant-loop-pair l = l.made ++ map (pair_with (given_by l.values)) (drop l.pair-index l.pairs) ≡ map (pair_with (given_by l.values)) l.pairs
