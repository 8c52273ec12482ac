use Rattle.step_values.proofs.Prelude.{◌≡◌, ◌++◌, [], Ok, drop, and_then, pair_renamed, pairs_renamed, with_bound}
use Rattle.step_values.proofs.Lists.{left}
use Rattle.step_values.proofs.renaming.add_pairs.Given as goal

-- the pairs that are left are still to be looked at
abbrev pub invariant-loop-pair : goal.invariant-loop-pair
invariant-loop-pair l =
    and_then (pairs_renamed l.scope.program.now (with_bound l.bound []) l.scope.pairs.now) (λ more. Ok (l.fn.renamed ++ more)) ≡
    left (λ k pair. pair_renamed l.scope.program.now (with_bound l.bound []) pair) (λ rs. rs) l.renamed l.pair-index (drop l.pair-index l.scope.pairs.now)
