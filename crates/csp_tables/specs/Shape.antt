-- The shape of a network: its parts, the links that join two parts which share events, and the vocabulary, the events that
-- two parts or more have.
use Rattle.std.specs.Prelude.{◌≡◌, ◌<◌, ◌≤◌, ◌↔◌, ◌⊎◌, ◌^◌, ℕ, List, [], Bool, ◌||◌, nat_eq, IsTrue, length, get_or}
use Rattle.dl_limits.specs.declared.TheConstants.{MOST_COMPONENTS, MOST_TERMS}
use Rattle.csp_base.specs.Members.{has}
use Rattle.csp_tables.specs.Table.{node_at, is_possible}
pub use Rattle.csp_tables.specs.Table.{IsReached}
use Rattle.csp_tables.specs.Part.{Part, part_at, alphabets_of, sharers, Meet, IsNonEmpty}
use Rattle.csp_tables.specs.Form.{HaveForm}

pub record Link : Type 0 where
  pub left : ℕ
  pub right : ℕ
  pub shared : List ℕ

pub record Shape : Type 0 where
  pub parts : List Part
  pub links : List Link
  pub vocabulary : List ℕ

-- past the end stands a link without events
abbrev pub link_at : Shape → ℕ → Link
link_at shape l = get_or shape.links l (record { left = 0; right = 0; shared = [] })

-- whether the part in place i is an end of the link in place l
abbrev pub is_end : Shape → ℕ → ℕ → Bool
is_end shape i l = nat_eq (link_at shape l).left i || nat_eq (link_at shape l).right i

-- The link joins two parts, the lower number first, and its events are those that both have. There is one.
pub record JoinsTwo (parts : List Part) (link : Link) : Type 0 where
  pub ordered : link.left < link.right
  pub within : link.right < length parts
  pub shared : (e : ℕ) → IsTrue (has link.shared e) ↔ (IsTrue (has (part_at parts link.left).alphabet e) × IsTrue (has (part_at parts link.right).alphabet e))
  pub some : IsNonEmpty link.shared

-- a link of the shape joins the two parts
pub record AreJoined (shape : Shape) (i j : ℕ) : Type 0 where
  pub link : ℕ
  pub within : link < length shape.links
  pub left : (link_at shape link).left ≡ i
  pub right : (link_at shape link).right ≡ j

-- the link in place l joins i and j, whichever is the left one
pub record Joins (shape : Shape) (i j l : ℕ) : Type 0 where
  pub within : l < length shape.links
  pub ends : ((link_at shape l).left ≡ i) × ((link_at shape l).right ≡ j) ⊎ ((link_at shape l).left ≡ j) × ((link_at shape l).right ≡ i)

-- links rise by the left part and then by the right one
abbrev pub IsBelow : Link → Link → Type 0
IsBelow a b = (a.left < b.left) ⊎ ((a.left ≡ b.left) × (a.right < b.right))

abbrev pub LinksRise : Shape → Type 0
LinksRise shape = (l m : ℕ) → l < m → m < length shape.links → IsBelow (link_at shape l) (link_at shape m)

-- The parts and the links are numbered by numbers below 2 ^ 32, and the links rise.
pub record LinksAreOrdered (shape : Shape) : Type 0 where
  pub parts_numbered : length shape.parts < 2 ^ 32
  pub links_numbered : length shape.links < 2 ^ 32
  pub links_rise : LinksRise shape

-- the acceptance in place k of the node n
abbrev pub acceptance_at : Part → ℕ → ℕ → List ℕ
acceptance_at p n k = get_or (node_at p.table n).accept k []

-- There are 1 to 512 parts, and the links and the vocabulary are those of their alphabets.
pub record IsLinked (shape : Shape) : Type 0 where
  pub least : 1 ≤ length shape.parts
  pub most : length shape.parts ≤ MOST_COMPONENTS
  pub links : (l : ℕ) → l < length shape.links → JoinsTwo shape.parts (link_at shape l)
  pub all_links : (i j : ℕ) → i < j → j < length shape.parts → Meet (part_at shape.parts i).alphabet (part_at shape.parts j).alphabet → AreJoined shape i j
  pub links_rise : LinksRise shape
  pub vocabulary : (e : ℕ) → IsTrue (has shape.vocabulary e) ↔ (2 ≤ sharers (alphabets_of shape.parts) e)

-- A shape is well formed where its tables have their form, each node is reached, each event of an acceptance is possible at
-- its node, and the links and the vocabulary are those of the parts.
pub record IsWellFormed (shape : Shape) : Type 0 where
  pub linked : IsLinked shape
  pub form : HaveForm shape.parts
  pub few : (i n : ℕ) → i < length shape.parts → length (node_at (part_at shape.parts i).table n).accept ≤ MOST_TERMS
  pub possible : (i n k e : ℕ) → i < length shape.parts → IsTrue (has (acceptance_at (part_at shape.parts i) n k) e) → IsTrue (is_possible (node_at (part_at shape.parts i).table n).next e)
  pub reached : (i n : ℕ) → i < length shape.parts → n < length (part_at shape.parts i).table → IsReached (part_at shape.parts i).table n
