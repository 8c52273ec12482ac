-- The ranking of a network of users and resources. The number of a resource is one more than the greatest number of resources
-- that must be numbered below it in a chain. A free resource ranks above all. A held one, and a user that offers to acquire,
-- rank the lower the higher the number is. There are no laps.
-- (For the deciders' contracts and the proofs alone: what a reader needs of ranks stands in GreatestRank.)
use Rattle.std.specs.Prelude.{◌≡◌, ◌<◌, ◌≤◌, ◌+◌, ◌-◌, ◌*◌, ℕ, ℤ, pos, List, true, false, IsTrue, length}
use Rattle.csp_tables.specs.Prelude.{end_of, part_at, IsNonEmpty, Shape, Accepts, accepted, UseSets, use_at, Ranking, Fits, part_ranks, rank_at}
use Rattle.design_rules.specs.Vertices.{OthersRankZero, lap_at}
use Rattle.design_rules.specs.ByTables.{by_tables}
pub use Rattle.design_rules.specs.GreatestRank.{top_number}
use Rattle.design_rules.specs.GreatestRank as rank
use Rattle.design_rules.specs.Resource.{acquires, is_held}

abbrev pub StandsAbove : Shape → List UseSets → ℕ → ℕ → Type 0
StandsAbove shape = rank.StandsAbove shape (by_tables shape)

abbrev pub AreResourceNumbers : Shape → List UseSets → (ℕ → ℕ) → Type 0
AreResourceNumbers shape = rank.AreResourceNumbers shape (by_tables shape)

-- the rank, after a run s, of the acceptance in place k
abbrev pub rank_there : Shape → Ranking → ℕ → List ℕ → ℕ → ℤ
rank_there shape ranking i s k = rank_at (part_ranks ranking i).ranks (end_of (part_at shape.parts i).table 0 s) k

-- an acceptance in the vocabulary, not empty
pub record AcceptsSome (shape : Shape) (i : ℕ) (s : List ℕ) (k : ℕ) : Type 0 where
  pub accepts : Accepts shape i s k
  pub some : IsNonEmpty (accepted shape i s k)

-- the ranking with these numbers of the resources, of which top is the greatest
pub record AreResourceRanks (shape : Shape) (uses : List UseSets) (number : ℕ → ℕ) (top : ℕ) (ranking : Ranking) : Type 0 where
  pub greatest : top ≡ top_number uses number (length shape.parts)
  pub fits : Fits shape.parts ranking
  pub scale : ranking.scale ≡ pos 0
  pub free : (i : ℕ) (s : List ℕ) (k : ℕ) → (use_at uses i).resource ≡ true → AcceptsSome shape i s k → is_held shape s ≡ false → rank_there shape ranking i s k ≡ pos (2 * top + 2)
  pub held : (i : ℕ) (s : List ℕ) (k : ℕ) → (use_at uses i).resource ≡ true → AcceptsSome shape i s k → is_held shape s ≡ true → rank_there shape ranking i s k ≡ pos (2 * (top - number i) + 1)
  pub acquiring : (i : ℕ) (s : List ℕ) (k j : ℕ) → (use_at uses i).resource ≡ false → AcceptsSome shape i s k → j < length shape.parts → IsTrue (acquires uses (accepted shape i s k) j) → ((m : ℕ) → m < length shape.parts → IsTrue (acquires uses (accepted shape i s k) m) → number j ≤ number m) → rank_there shape ranking i s k ≡ pos (2 * (top - number j) + 2)
  pub not_acquiring : (i : ℕ) (s : List ℕ) (k : ℕ) → (use_at uses i).resource ≡ false → AcceptsSome shape i s k → ((m : ℕ) → m < length shape.parts → acquires uses (accepted shape i s k) m ≡ false) → rank_there shape ranking i s k ≡ pos 0
  pub others : OthersRankZero shape ranking
  pub laps : (i n e : ℕ) → i < length shape.parts → lap_at shape ranking i n e ≡ 0

pub record IsResourceRanking (shape : Shape) (uses : List UseSets) (ranking : Ranking) : Type 0 where
  pub number : ℕ → ℕ
  pub numbers : AreResourceNumbers shape uses number
  pub top : ℕ
  pub ranks : AreResourceRanks shape uses number top ranking
