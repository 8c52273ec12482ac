-- The ranking of a client-server network. A component's height is the greatest number of arcs in a walk from it to servers.
-- Where the acceptance has requests to the component as a server, its rank is twice the number of components less the height;
-- elsewhere the rank is the height. There are no laps.
-- (For the deciders' contracts and the proofs alone: what a reader needs of ranks stands in GreatestRank.)
use Rattle.std.specs.Prelude.{◌≡◌, ◌<◌, ◌*◌, ℕ, pos, ◌-ℤ◌, List, length}
use Rattle.digraph.specs.Walk.{IsLongestWalk}
use Rattle.csp_tables.specs.Prelude.{part_at, Meet, AreApart, Shape, acceptance_at, RoleSets, role_at, Ranking, Fits, part_ranks, rank_at}
use Rattle.design_rules.specs.Vertices.{IsVertex, OthersRankZero, lap_at}
use Rattle.design_rules.specs.ClientServer.{Serves}

pub record IsClientServerRanking (shape : Shape) (roles : List RoleSets) (ranking : Ranking) : Type 0 where
  pub height : ℕ → ℕ
  pub heights : (i : ℕ) → i < length shape.parts → IsLongestWalk (Serves shape roles) i (height i)
  pub fits : Fits shape.parts ranking
  pub scale : ranking.scale ≡ pos 0
  pub serving : (i n k : ℕ) → IsVertex shape i n k → Meet (acceptance_at (part_at shape.parts i) n k) (role_at roles i).sreq → rank_at (part_ranks ranking i).ranks n k ≡ pos (2 * length shape.parts) -ℤ pos (height i)
  pub asking : (i n k : ℕ) → IsVertex shape i n k → AreApart (acceptance_at (part_at shape.parts i) n k) (role_at roles i).sreq → rank_at (part_ranks ranking i).ranks n k ≡ pos (height i)
  pub others : OthersRankZero shape ranking
  pub laps : (i n e : ℕ) → i < length shape.parts → lap_at shape ranking i n e ≡ 0
