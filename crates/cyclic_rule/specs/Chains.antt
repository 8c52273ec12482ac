-- Which link comes next after which. (No public contract cites this.)
use Rattle.std.specs.Prelude.{◌≡◌, ◌<◌, ◌+◌, ◌⊎◌, ℕ, List, Some, IsTrue, false, length, slice_get}
use Rattle.csp_base.specs.Members.{has}
use Rattle.csp_tables.specs.Shape.{Shape}
use Rattle.digraph.specs.Digraph.{HasArc}
use Rattle.shape_links.specs.Links.{ends_of}
use Rattle.cyclic_conditions.specs.Orders.{order_at}

-- m stands in the list next after l
pub record IsNextIn (order : List ℕ) (l m : ℕ) : Type 0 where
  pub place : ℕ
  pub first : slice_get order place ≡ Some l
  pub second : slice_get order (place + 1) ≡ Some m

-- l is the last of the list, and m is a link that is not in it
pub record IsRestAfter (order ends : List ℕ) (l m : ℕ) : Type 0 where
  pub place : ℕ
  pub last : slice_get order place ≡ Some l
  pub end : length order ≡ place + 1
  pub link : IsTrue (has ends m)
  pub absent : has order m ≡ false

-- this link m is not in the list, of which this link l is the last
abbrev pub IsRest : List ℕ → ℕ → ℕ → ℕ → ℕ → Type 0
IsRest order link last l m = (m ≡ link) × (l ≡ last) × (has order link ≡ false)

abbrev pub ComesNext : List ℕ → List ℕ → ℕ → ℕ → Type 0
ComesNext order ends l m = IsNextIn order l m ⊎ IsRestAfter order ends l m

-- the arcs B are the arcs A, and one from each link to each after which it comes next
pub record Adds (A Next B : ℕ → ℕ → Type 0) : Type 0 where
  pub sound : (m l : ℕ) → B m l → A m l ⊎ Next l m
  pub kept : (m l : ℕ) → A m l → B m l
  pub complete : (m l : ℕ) → Next l m → B m l

-- in the order of one of the first n parts, m comes next after l
pub record IsNextAt (shape : Shape) (orders : List (List ℕ)) (n l m : ℕ) : Type 0 where
  pub part : ℕ
  pub within : part < n
  pub next : ComesNext (order_at orders part) (ends_of shape part) l m

-- there is an arc from each link to each after which it comes next in the order of a part
pub record AreChains (shape : Shape) (orders rows : List (List ℕ)) : Type 0 where
  pub count : length rows ≡ length shape.links
  pub sound : (m l : ℕ) → HasArc rows m l → IsNextAt shape orders (length shape.parts) l m
  pub complete : (m l : ℕ) → IsNextAt shape orders (length shape.parts) l m → HasArc rows m l
