-- Which resources users hold while they offer to acquire others: sets of links, one for each link, and the arcs that they give. A
-- row of sets is read as a digraph here. (For private contracts: no public one cites this.)
use Rattle.std.specs.Prelude.{◌≡◌, ◌<◌, ◌⊎◌, ◌&&◌, ℕ, List, [], Bool, IsTrue, length, get_or, if◌then◌else◌}
use Rattle.csp_base.specs.Members.{has}
use Rattle.csp_tables.specs.Prelude.{IsRun, end_of, is_end, link_at, part_at, use_at}
use Rattle.design_rules.specs.Resource.{holds}
use Rattle.digraph.specs.Prelude.{HasArc}
use Rattle.resource_rule.specs.Uses.{IsOfferedHolding, is_offered}
use Rattle.shape_links.specs.Links.{ends_of}
use Rattle.shape_links.specs.Setting.{IsUser, Setting, node_of}

-- arcs are added, just those of which this holds
pub record AddsArcs (Of : ℕ → ℕ → Type 0) (old new : List (List ℕ)) : Type 0 where
  pub count : length new ≡ length old
  pub sound : (v w : ℕ) → HasArc new v w → HasArc old v w ⊎ Of v w
  pub kept : (v w : ℕ) → HasArc old v w → HasArc new v w
  pub added : (v w : ℕ) → Of v w → HasArc new v w

-- it holds for a number below the bound
abbrev pub Below : (ℕ → ℕ → ℕ → Type 0) → ℕ → ℕ → ℕ → Type 0
Below Of bound v w = (n : ℕ) × (n < bound) × Of n v w

-- the end of a link that is a resource, where one is
abbrev pub resource_of : Setting → ℕ → ℕ
resource_of g l = if (use_at g.uses (link_at g.shape l).left).resource then (link_at g.shape l).left else (link_at g.shape l).right

-- whether the event is on the link and acquires its resource
abbrev pub is_acquiring : Setting → ℕ → ℕ → Bool
is_acquiring g k e = has (link_at g.shape k).shared e && has (use_at g.uses (resource_of g k)).acquire e

-- the user i holds the resource of its link l while it offers an event that acquires that of the link k
pub record HoldsWhile (g : Setting) (i k l : ℕ) : Type 0 where
  pub user : IsUser g i
  pub within : l < length g.shape.links
  pub end : IsTrue (is_end g.shape i l)
  pub event : ℕ
  pub offered : IsOfferedHolding g i l event
  pub acquiring : IsTrue (is_acquiring g k event)

-- the part i offers at its node n an event that acquires the resource of the link k, and l is one of the links held there
pub record OffersWhile (g : Setting) (i n : ℕ) (held : List ℕ) (k l : ℕ) : Type 0 where
  pub event : ℕ
  pub offered : IsTrue (is_offered g.shape.vocabulary (node_of g i n).accept event)
  pub acquiring : IsTrue (is_acquiring g k event)
  pub holding : IsTrue (has held l)

-- for each node of the part i the links on which it holds a resource after each run to the node
pub record AreHeld (g : Setting) (i : ℕ) (held : List (List ℕ)) : Type 0 where
  pub count : length held ≡ length (part_at g.shape.parts i).table
  pub each : (s : List ℕ) (l : ℕ) → IsRun (part_at g.shape.parts i).table s → has (get_or held (end_of (part_at g.shape.parts i).table 0 s) []) l ≡ (has (ends_of g.shape i) l && holds g.shape l s)

-- the arc leads from the resource of the link k to that of a link in the set
pub record LeadsToHeld (g : Setting) (k : ℕ) (held : List ℕ) (j m : ℕ) : Type 0 where
  pub link : ℕ
  pub from : resource_of g k ≡ j
  pub listed : IsTrue (has held link)
  pub to : resource_of g link ≡ m

-- it leads from the resource of some link
abbrev pub LeadsToSome : Setting → List (List ℕ) → ℕ → ℕ → Type 0
LeadsToSome g sets = Below (λ k. LeadsToHeld g k (get_or sets k [])) (length g.shape.links)
