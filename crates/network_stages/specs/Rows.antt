-- The events that parts share, sorted out by the left one of the parts. (No public contract cites this.)
use Rattle.std.specs.Prelude.{◌≡◌, ◌<◌, ◌≤◌, ◌↔◌, ◌⊎◌, ℕ, List, [], ◌∷◌, Bool, false, Option, Some, None, IsTrue, nat_eq, length, get_or, slice_index_or, if◌then◌else◌}
use Rattle.std.specs.List.{flat_map, list_any}
use Rattle.csp_base.specs.Members.{has}
use Rattle.csp_tables.specs.Prelude.{Part, part_at, alphabets_of, sharers, Meet, Link, JoinsTwo, IsBelow}
use Rattle.observed_runs.specs.Observed.{pair_at}

-- ---- for each event a part that has it

abbrev pub owner_of : List (Option ℕ) → ℕ → Option ℕ
owner_of owners e = get_or owners e None

-- The part that is kept for an event is one of the first n that has it. Where a later part has it too, it is the only one.
pub record AreOwners (parts : List Part) (n : ℕ) (owners : List (Option ℕ)) : Type 0 where
  pub sound : (e i : ℕ) → owner_of owners e ≡ Some i → (i < n) × IsTrue (has (part_at parts i).alphabet e)
  pub complete : (e i j : ℕ) → i < n → n ≤ j → j < length parts
      → IsTrue (has (part_at parts i).alphabet e) → IsTrue (has (part_at parts j).alphabet e) → owner_of owners e ≡ Some i

-- ---- rows of pairs: a later part, and an event that it shares

abbrev pub row_at : List (List (ℕ × ℕ)) → ℕ → List (ℕ × ℕ)
row_at rows i = slice_index_or rows i []

-- whether it is the part i
abbrev pub is_part : Option ℕ → ℕ → Bool
is_part None i = false
is_part (Some j) i = nat_eq j i

-- the pair of the part and the event, where the event's owner is the part i
abbrev pub joint : List (Option ℕ) → ℕ → ℕ → ℕ → List (ℕ × ℕ)
joint owners part i e = if is_part (owner_of owners e) i then (part, e) ∷ [] else []

-- the same for some events, one after another
abbrev pub joints : List (Option ℕ) → ℕ → ℕ → List ℕ → List (ℕ × ℕ)
joints owners part i events = flat_map (joint owners part i) events

-- the part i shares the event with the part j, a later one among the first n
pub record IsSharedBy (parts : List Part) (n i j e : ℕ) : Type 0 where
  pub later : i < j
  pub within : j < n
  pub left : IsTrue (has (part_at parts i).alphabet e)
  pub right : IsTrue (has (part_at parts j).alphabet e)

pub record IsInRow (row : List (ℕ × ℕ)) (j e : ℕ) : Type 0 where
  pub place : ℕ
  pub within : place < length row
  pub part : (pair_at row place).0 ≡ j
  pub event : (pair_at row place).1 ≡ e

-- what the part i shares with later ones among the first n, in the order of these
pub record IsRow (parts : List Part) (n i : ℕ) (row : List (ℕ × ℕ)) : Type 0 where
  pub sound : (k : ℕ) → k < length row → IsSharedBy parts n i (pair_at row k).0 (pair_at row k).1
  pub complete : (j e : ℕ) → IsSharedBy parts n i j e → IsInRow row j e
  pub rise : (k m : ℕ) → k ≤ m → m < length row → (pair_at row k).0 ≤ (pair_at row m).0

-- a row for each part
pub record AreRows (parts : List Part) (n : ℕ) (rows : List (List (ℕ × ℕ))) : Type 0 where
  pub one_each : length rows ≡ length parts
  pub each : (i : ℕ) → i < length parts → IsRow parts n i (row_at rows i)

-- ---- the events of rows

abbrev pub has_event : List (ℕ × ℕ) → ℕ → Bool
has_event row e = list_any (λ pair. nat_eq pair.1 e) row

abbrev pub any_has_event : List (List (ℕ × ℕ)) → ℕ → Bool
any_has_event rows e = list_any (λ row. has_event row e) rows

-- ---- links

abbrev pub link_in : List Link → ℕ → Link
link_in links k = get_or links k (record { left = 0; right = 0; shared = [] })

pub record HasLink (links : List Link) (i j : ℕ) : Type 0 where
  pub place : ℕ
  pub within : place < length links
  pub left : (link_in links place).left ≡ i
  pub right : (link_in links place).right ≡ j

-- the pair of the parts l and r stands before that of i and j
abbrev pub Precedes : ℕ → ℕ → ℕ → ℕ → Type 0
Precedes l r i j = (l < i) ⊎ ((l ≡ i) × (r < j))

-- the links of the pairs of parts that stand before i and j, in rising order
pub record AreLinksBefore (parts : List Part) (i j : ℕ) (links : List Link) : Type 0 where
  pub joins : (k : ℕ) → k < length links → JoinsTwo parts (link_in links k)
  pub before : (k : ℕ) → k < length links → Precedes (link_in links k).left (link_in links k).right i j
  pub all : (l r : ℕ) → l < r → r < length parts → Precedes l r i j → Meet (part_at parts l).alphabet (part_at parts r).alphabet → HasLink links l r
  pub rise : (k m : ℕ) → k < m → m < length links → IsBelow (link_in links k) (link_in links m)

-- the events that two parts or more have
abbrev pub IsVocabulary : List Part → List ℕ → Type 0
IsVocabulary parts events = (e : ℕ) → IsTrue (has events e) ↔ (2 ≤ sharers (alphabets_of parts) e)
