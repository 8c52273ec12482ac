-- What is told where a network is not cyclic: a component without an order, orders that disagree, or a link without a whole
-- end. Of these the first that stands is told.
use Rattle.std.specs.Prelude.{◌≡◌, ◌<◌, ◌≤◌, ◌⊎◌, ℕ, List, map, length}
use Rattle.csp_tables.specs.Shape.{Shape, link_at}
use Rattle.digraph.specs.Circle.{IsLeastCircle}
use Rattle.design_rules.specs.Behaviours.{Behaviours}
use Rattle.design_rules.specs.CyclicRule.{SamePlace, ReachesLink, KeepsPlaces, AllKeepPlaces, MustPrecede, CanBeNumbered, FallsShort, HasWholeEnd}

-- An event on the link l after the trace s and one on the link m after the trace t clash: they lie on different links at the
-- same place, or on the same link at different places.
abbrev pub Clash : Shape → ℕ → ℕ → List ℕ → ℕ → List ℕ → Type 0
Clash shape i l s m t = ((l ≡ m → ⊥) × SamePlace shape i s t) ⊎ ((l ≡ m) × (SamePlace shape i s t → ⊥))

-- The component i has no order: the event e after the trace s clashes with one that is possible after a trace that is not longer.
-- (So of two events that clash, the one after the longer trace is told.)
pub record BreaksOrder (shape : Shape) (b : Behaviours) (i : ℕ) (s : List ℕ) (e : ℕ) : Type 0 where
  pub link : ℕ
  pub reaches : ReachesLink shape b i link s e
  pub other_run : List ℕ
  pub other_event : ℕ
  pub other_link : ℕ
  pub other_reaches : ReachesLink shape b i other_link other_run other_event
  pub not_longer : length other_run ≤ length s
  pub clash : Clash shape i link s other_link other_run

-- The component i is the first that goes through its links in no fixed order: the event e after the trace s shows it.
pub record HasNoOrder (shape : Shape) (b : Behaviours) (i : ℕ) (s : List ℕ) (e : ℕ) : Type 0 where
  pub breaks : BreaksOrder shape b i s e
  pub first : (j : ℕ) → j < i → KeepsPlaces shape b j

-- the two components of a link
abbrev pub ends_of : Shape → ℕ → ℕ × ℕ
ends_of shape l = ((link_at shape l).left, (link_at shape l).right)

-- Each component has its order, and the orders disagree: of the links with these ends each must come before the next, and the
-- last before the first.
pub record OrdersDisagree (shape : Shape) (b : Behaviours) (ends : List (ℕ × ℕ)) : Type 0 where
  pub order : AllKeepPlaces shape b
  pub links : List ℕ
  pub circle : IsLeastCircle (MustPrecede shape b) links
  pub are : ends ≡ map (ends_of shape) links

-- The orders agree, and the link of i and j is the first of which both ends fall short, the left one after s and the right one
-- after t.
pub record HasNoWholeEnd (shape : Shape) (b : Behaviours) (i j : ℕ) (s t : List ℕ) : Type 0 where
  pub order : AllKeepPlaces shape b
  pub numbered : CanBeNumbered shape b
  pub link : ℕ
  pub within : link < length shape.links
  pub ends : ends_of shape link ≡ (i, j)
  pub left : FallsShort shape b link (link_at shape link).left s
  pub right : FallsShort shape b link (link_at shape link).right t
  pub first : (m : ℕ) → m < link → HasWholeEnd shape b m
