use Rattle.conformance.proofs.Prelude.{ℕ, List, subst, IfOk, Found, IsExploration, Following, follow_step}
use Rattle.conformance.proofs.conforming.explore_both.Goals as goal

pub returns-clause-pairs : goal.returns-clause-pairs
returns-clause-pairs c =
    subst (λ (a : List ℕ). IfOk c.explore.result (λ (made : Found). IsExploration c.args.part.now.table (follow_step a c.args.specified.now.table) 0 made.pairs)) c.alphabet-2.ensures
    (subst (λ (f : Following). IfOk c.explore.result (λ (made : Found). IsExploration c.args.part.now.table (follow_step f.alphabet f.table) 0 made.pairs)) c.new-follower.ensures c.explore.ensures.pairs)
