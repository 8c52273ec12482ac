-- When ranks fall along requests that are not granted (Brookes and Roscoe 1991; Roscoe 1997, chapter 13; Martin 1996).
use Rattle.std.specs.Prelude.{◌≡◌, ◌<◌, ℕ, ℤ, pos, ◌+ℤ◌, ◌-ℤ◌, ◌*ℤ◌, ◌<ℤ◌, List, length}
use Rattle.csp_tables.specs.Part.{Part, part_at, alphabets_of, IsShared, Meet, AreApart}
use Rattle.csp_tables.specs.Stands.{Stands, acceptance}
use Rattle.csp_tables.specs.Ranking.{Ranking, rank_after, laps_along}

-- An ungranted request, after a joint run s of two parts. The part in place i stands at its acceptance k and asks the part
-- in place j for an event of it. That part stands at its acceptance l, which has no event in common with k. Both offer
-- shared events alone, so both wait for others.
pub record IsUngranted (parts : List Part) (s : List ℕ) (i j k l : ℕ) : Type 0 where
  pub here : i < length parts
  pub there : j < length parts
  pub distinct : i ≡ j → ⊥
  pub stands : Stands (part_at parts i) s k
  pub other_stands : Stands (part_at parts j) s l
  pub shared : IsShared (alphabets_of parts) (acceptance (part_at parts i) s k)
  pub other_shared : IsShared (alphabets_of parts) (acceptance (part_at parts j) s l)
  pub asks : Meet (acceptance (part_at parts i) s k) (part_at parts j).alphabet
  pub apart : AreApart (acceptance (part_at parts i) s k) (acceptance (part_at parts j) s l)

-- by how many laps the part in place i is ahead of the one in place j
abbrev pub lead : List Part → Ranking → List ℕ → ℕ → ℕ → ℤ
lead parts ranking s i j = pos (laps_along ranking i (part_at parts i) s) -ℤ pos (laps_along ranking j (part_at parts j) s)

-- The rank, with the laps that the asking part is ahead, is above the rank of the part that it waits for.
abbrev pub Falls : List Part → Ranking → Type 0
Falls parts ranking =
    (s : List ℕ) (i j k l : ℕ) → IsUngranted parts s i j k l →
    rank_after ranking j (part_at parts j) s l <ℤ (rank_after ranking i (part_at parts i) s k +ℤ (ranking.scale *ℤ lead parts ranking s i j))
