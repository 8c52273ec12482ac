-- Ranks and laps over the tables of a network: a rank for each acceptance of each node, a lap of 0 or 1 for each event of
-- each node, and one scale, by which laps weigh against ranks.
use Rattle.std.specs.Prelude.{◌≤◌, ◌+◌, ℕ, ℤ, pos, List, [], ◌∷◌, nat_eq, if◌then◌else◌, get_or}
use Rattle.csp_tables.specs.Table.{Node, node_at, node_after, end_of}
use Rattle.csp_tables.specs.Part.{Part, project}

pub record PartRanks : Type 0 where
  pub ranks : List (List ℤ)
  pub laps : List (List ℕ)

pub record Ranking : Type 0 where
  pub scale : ℤ
  pub parts : List PartRanks

-- past the end stands a part without ranks and without laps
abbrev pub part_ranks : Ranking → ℕ → PartRanks
part_ranks ranking i = get_or ranking.parts i (record { ranks = []; laps = [] })

-- one number for each member of the list
abbrev pub AsMany : {A B : Type 0} → List A → List B → Type 0
AsMany [] [] = Unit {0}
AsMany (a ∷ as') (b ∷ bs) = AsMany as' bs
AsMany _ _ = ⊥

abbrev pub AtMostOne : List ℕ → Type 0
AtMostOne [] = Unit {0}
AtMostOne (n ∷ ns) = (n ≤ 1) × AtMostOne ns

-- one rank for each acceptance
abbrev pub RanksFit : List Node → List (List ℤ) → Type 0
RanksFit [] [] = Unit {0}
RanksFit (n ∷ ns) (r ∷ rs) = AsMany n.accept r × RanksFit ns rs
RanksFit _ _ = ⊥

-- one lap, 0 or 1, for each possible event
abbrev pub LapsFit : List Node → List (List ℕ) → Type 0
LapsFit [] [] = Unit {0}
LapsFit (n ∷ ns) (l ∷ ls) = AsMany n.next l × AtMostOne l × LapsFit ns ls
LapsFit _ _ = ⊥

abbrev pub PartsFit : List Part → List PartRanks → Type 0
PartsFit [] [] = Unit {0}
PartsFit (p ∷ ps) (r ∷ rs) = RanksFit p.table r.ranks × LapsFit p.table r.laps × PartsFit ps rs
PartsFit _ _ = ⊥

-- the ranking has exactly the numbers that the parts' tables ask for
abbrev pub Fits : List Part → Ranking → Type 0
Fits parts ranking = PartsFit parts ranking.parts

-- the rank of the acceptance in place k at the node n
abbrev pub rank_at : List (List ℤ) → ℕ → ℕ → ℤ
rank_at ranks n k = get_or (get_or ranks n []) k (pos 0)

-- the lap that stands for the event e, 0 where there is none
abbrev pub lap_of : List (ℕ × ℕ) → List ℕ → ℕ → ℕ
lap_of [] laps e = 0
lap_of (step ∷ steps) [] e = 0
lap_of (step ∷ steps) (lap ∷ laps) e = if nat_eq step.0 e then lap else lap_of steps laps e

-- the laps along the events from the node n, added up
abbrev pub laps_from : List Node → List (List ℕ) → ℕ → List ℕ → ℕ
laps_from table laps n [] = 0
laps_from table laps n (e ∷ s) = lap_of (node_at table n).next (get_or laps n []) e + laps_from table laps (node_after table n e) s

-- of the part in place i: the rank of the acceptance in place k, after the part's events of s
abbrev pub rank_after : Ranking → ℕ → Part → List ℕ → ℕ → ℤ
rank_after ranking i p s k = rank_at (part_ranks ranking i).ranks (end_of p.table 0 (project p.alphabet s)) k

-- of the part in place i: the laps along its events of s
abbrev pub laps_along : Ranking → ℕ → Part → List ℕ → ℕ
laps_along ranking i p s = laps_from p.table (part_ranks ranking i).laps 0 (project p.alphabet s)
