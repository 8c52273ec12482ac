-- The first node of each end of a link that falls short. (No rule's decider cites this.)
use Rattle.std.specs.Prelude.{◌≡◌, ◌<◌, ◌⊎◌, ℕ, List, Option, Some, None, false, IsTrue, length, get_or}
use Rattle.csp_base.specs.Prelude.{has}
use Rattle.csp_tables.specs.Prelude.{node_at, part_at, Meet, IsWithin, Shape, link_at, acceptance_at, IsWellFormed, TripleDisjoint, alphabets_of}
use Rattle.cyclic_conditions.specs.declared.shorts.Shorts.{Shorts}

-- a set in the vocabulary has an event of the link and lacks another
pub record IsShort (shape : Shape) (l : ℕ) (M : List ℕ) : Type 0 where
  pub link : l < length shape.links
  pub shared : IsWithin M shape.vocabulary
  pub meets : Meet M (link_at shape l).shared
  pub missing : ℕ
  pub on : IsTrue (has (link_at shape l).shared missing)
  pub lacks : has M missing ≡ false

-- the node n of the part i has an acceptance in place k
pub record IsAcceptance (shape : Shape) (i n k : ℕ) : Type 0 where
  pub part : i < length shape.parts
  pub node : n < length (part_at shape.parts i).table
  pub listed : k < length (node_at (part_at shape.parts i).table n).accept

-- that acceptance falls short of the link
pub record IsShortBy (shape : Shape) (l i n k : ℕ) : Type 0 where
  pub at : IsAcceptance shape i n k
  pub short : IsShort shape l (acceptance_at (part_at shape.parts i) n k)

-- the node n of the part i falls short of the link
abbrev pub IsShortAt : Shape → ℕ → ℕ → ℕ → Type 0
IsShortAt shape l i n = (k : ℕ) × IsShortBy shape l i n k

-- Parts, nodes and acceptances are looked at in order: the acceptance k of the node n of the part i comes before this one.
abbrev pub Before : ℕ → ℕ → ℕ → ℕ → ℕ → ℕ → Type 0
Before part node place i n k = (i < part) ⊎ ((i ≡ part) × ((n < node) ⊎ ((n ≡ node) × (k < place))))

-- This is the first node of the part i that falls short of the link; or none of the acceptances that were seen does.
abbrev pub IsFirstShort : Shape → (ℕ → ℕ → ℕ → Type 0) → ℕ → ℕ → Option ℕ → Type 0
IsFirstShort shape seen l i None = (n k : ℕ) → seen i n k → IsShortBy shape l i n k → ⊥
IsFirstShort shape seen l i (Some n) = IsShortAt shape l i n × ((m : ℕ) → m < n → IsShortAt shape l i m → ⊥)

abbrev pub short_at : List (Option ℕ) → ℕ → Option ℕ
short_at nodes l = get_or nodes l None

-- for both ends of each link that node, or none
pub record AreShorts (shape : Shape) (seen : ℕ → ℕ → ℕ → Type 0) (shorts : Shorts) : Type 0 where
  pub form : IsWellFormed shape
  pub apart : TripleDisjoint (alphabets_of shape.parts)
  pub left_count : length shorts.left.items ≡ length shape.links
  pub right_count : length shorts.right.items ≡ length shape.links
  pub left : (l : ℕ) → IsFirstShort shape seen l (link_at shape l).left (short_at shorts.left.items l)
  pub right : (l : ℕ) → IsFirstShort shape seen l (link_at shape l).right (short_at shorts.right.items l)

-- the same, when all were seen
abbrev pub AreAllShorts : Shape → Shorts → Type 0
AreAllShorts shape = AreShorts shape (λ i n k. i < length shape.parts)
