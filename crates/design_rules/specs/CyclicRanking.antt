-- The ranking of a cyclic network. The number of a link is the greatest number of links that must come before it in a chain;
-- links that a component never reaches may share a number. The rank of an acceptance is the number of the link on which it
-- lies. A component's lap ends with the event on its last link. The scale is above all numbers.
-- (For the deciders' contracts and the proofs alone: what a reader needs of ranks stands in GreatestRank.)
use Rattle.std.specs.Prelude.{◌≡◌, ◌<◌, ◌+◌, ℕ, pos, length, nat_eq, if◌then◌else◌, false, IsTrue}
use Rattle.csp_base.specs.Members.{has}
use Rattle.digraph.specs.Walk.{IsLongestWalk}
use Rattle.csp_tables.specs.Prelude.{node_at, is_possible, part_at, Meet, Shape, is_end, link_at, acceptance_at, IsOn, Ranking, Fits, part_ranks, rank_at}
use Rattle.design_rules.specs.Counts.{above_all}
use Rattle.design_rules.specs.Vertices.{IsVertex, OthersRankZero, lap_at}
use Rattle.design_rules.specs.ByTables.{by_tables}
use Rattle.design_rules.specs.Cyclic.{links_of}
use Rattle.design_rules.specs.CyclicNumbered.{place_of}
use Rattle.design_rules.specs.GreatestRank as rank

abbrev pub ComesAfter : Shape → ℕ → ℕ → Type 0
ComesAfter shape = rank.ComesAfter shape (by_tables shape)

abbrev pub AreChainNumbers : Shape → (ℕ → ℕ) → Type 0
AreChainNumbers shape number = (l : ℕ) → l < length shape.links → IsLongestWalk (ComesAfter shape) l (number l)

-- after the place p of k places comes the first one again
abbrev pub ends_lap : ℕ → ℕ → ℕ
ends_lap p k = if nat_eq (p + 1) k then 1 else 0

-- the ranking with these numbers of the links
pub record AreCyclicRanks (shape : Shape) (number : ℕ → ℕ) (ranking : Ranking) : Type 0 where
  pub fits : Fits shape.parts ranking
  pub scale : ranking.scale ≡ pos (above_all number (length shape.links))
  pub ranks : (i n k l : ℕ) → IsVertex shape i n k → l < length shape.links → IsTrue (is_end shape i l) → Meet (acceptance_at (part_at shape.parts i) n k) (link_at shape l).shared → rank_at (part_ranks ranking i).ranks n k ≡ pos (number l)
  pub others : OthersRankZero shape ranking
  pub laps : (i n e l : ℕ) → i < length shape.parts → IsTrue (is_possible (node_at (part_at shape.parts i).table n).next e) → IsOn shape i l e → lap_at shape ranking i n e ≡ ends_lap (place_of shape number i l) (links_of shape i)
  pub no_laps : (i n e : ℕ) → i < length shape.parts → has shape.vocabulary e ≡ false → lap_at shape ranking i n e ≡ 0

pub record IsCyclicRanking (shape : Shape) (ranking : Ranking) : Type 0 where
  pub number : ℕ → ℕ
  pub numbers : AreChainNumbers shape number
  pub ranks : AreCyclicRanks shape number ranking
