-- What all rankings say in the same words: which acceptances have a rank of their own, and which lap stands for an event.
use Rattle.std.specs.Prelude.{◌≡◌, ◌<◌, ℕ, pos, [], length, get_or}
use Rattle.csp_tables.specs.Prelude.{node_at, part_at, IsNonEmpty, IsWithin, Shape, acceptance_at, Ranking, part_ranks, rank_at, lap_of}

-- A vertex: the acceptance in place k of the node n of the part i, which is not empty and lies in the vocabulary.
pub record IsVertex (shape : Shape) (i n k : ℕ) : Type 0 where
  pub part : i < length shape.parts
  pub node : n < length (part_at shape.parts i).table
  pub listed : k < length (node_at (part_at shape.parts i).table n).accept
  pub some : IsNonEmpty (acceptance_at (part_at shape.parts i) n k)
  pub shared : IsWithin (acceptance_at (part_at shape.parts i) n k) shape.vocabulary

-- every other acceptance has rank 0
abbrev pub OthersRankZero : Shape → Ranking → Type 0
OthersRankZero shape ranking = (i n k : ℕ) → i < length shape.parts → (IsVertex shape i n k → ⊥) → rank_at (part_ranks ranking i).ranks n k ≡ pos 0

-- the lap of the event e at the node n of the part i
abbrev pub lap_at : Shape → Ranking → ℕ → ℕ → ℕ → ℕ
lap_at shape ranking i n e = lap_of (node_at (part_at shape.parts i).table n).next (get_or (part_ranks ranking i).laps n []) e
