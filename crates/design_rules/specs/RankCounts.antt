-- The greatest number of a ranking, as it is counted over the tables of a shape; it is the network's greatest rank.
use Rattle.std.specs.Prelude.{ℕ, ℤ, max, List, [], ◌∷◌}
use Rattle.std.specs.List.{flat_map}
use Rattle.csp_base.specs.Lists.{natural}
use Rattle.csp_tables.specs.Prelude.{Label, Tree, leaves, Ranking, Shape, IsShapeOf}
use Rattle.design_rules.specs.GreatestRank.{NetworkHasGreatestRank}
use Rattle.design_rules.specs.Rules.{Ranks}
use Rattle.design_rules.specs.declared.noted_rule.NotedRule.{NotedRule}

-- the greatest of the number m and these; no rank that a rule gives is below 0
abbrev pub greatest_from : ℕ → List ℤ → ℕ
greatest_from m [] = m
greatest_from m (r ∷ rs) = greatest_from (max m (natural r)) rs

-- all ranks of a ranking, one after another
abbrev pub all_ranks : Ranking → List ℤ
all_ranks ranking = flat_map (λ part. flat_map (λ row. row) part.ranks) ranking.parts

-- the greatest rank of a ranking, 0 where there is none
abbrev pub greatest_rank : Ranking → ℕ
greatest_rank ranking = greatest_from 0 (all_ranks ranking)

-- the greatest number of the ranking that a rule gives to the shape of a network is the network's greatest rank by the rule
abbrev pub RankingsHaveGreatestRank : {T : Type 0} → (T → Label → T → Type 0) → Type 0
RankingsHaveGreatestRank {T} Step =
    (tree : Tree T) (shape : Shape) → IsShapeOf Step tree shape → (rule : NotedRule) (ranking : Ranking) → Ranks rule shape ranking →
    NetworkHasGreatestRank Step (leaves tree) rule (greatest_rank ranking)
