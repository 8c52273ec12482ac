-- The rule of cyclic networks (after Roscoe and Dathi 1987, Martin 1996 and chapter 13 of Roscoe 1997; this exact form is the
-- project's own): each component goes through its links in a fixed order, again and again, these orders agree, and on each
-- link one end at least never offers some of the link's events without the others.
--
-- The order of a component is said by places. The place of an event is the number of shared events that were done before. A
-- component with k links goes through them in a fixed order where two of its events lie on one link exactly where their
-- places agree modulo k. The orders agree where the links of the network can be numbered so that they rise along each order.
--
-- The conditions read the alphabets, links and vocabulary of a shape, and none of its tables; what components do is told by a reading of them.
use Rattle.std.specs.Prelude.{◌≡◌, ◌↔◌, ◌<◌, ◌%◌, ◌⊎◌, ℕ, List, IsTrue, false, length}
use Rattle.csp_base.specs.Members.{has}
use Rattle.csp_tables.specs.Prelude.{Meet, Shape, is_end, link_at, IsOn}
use Rattle.design_rules.specs.Behaviours.{Behaviours}
use Rattle.design_rules.specs.Counts.{count_below, count_in}

-- how many links the component in place i has
abbrev pub links_of : Shape → ℕ → ℕ
links_of shape i = count_below (λ l. is_end shape i l) (length shape.links)

-- The component i reaches its link l: the event e of the link is possible after the trace s.
pub record ReachesLink (shape : Shape) (b : Behaviours) (i l : ℕ) (s : List ℕ) (e : ℕ) : Type 0 where
  pub possible : b.possible i s e
  pub on : IsOn shape i l e

-- the place of what is possible after the trace s
abbrev pub place_after : Shape → List ℕ → ℕ
place_after shape s = count_in shape.vocabulary s

-- what is possible after s and what is possible after t stand at the same place of the component's lap
abbrev pub SamePlace : Shape → ℕ → List ℕ → List ℕ → Type 0
SamePlace shape i s t = place_after shape s % links_of shape i ≡ place_after shape t % links_of shape i

-- C1: the component goes through its links in a fixed order. What it reaches after two traces lies on one link exactly where it
-- stands at the same place.
abbrev pub KeepsPlaces : Shape → Behaviours → ℕ → Type 0
KeepsPlaces shape b i = (l m : ℕ) (s t : List ℕ) (e f : ℕ) → ReachesLink shape b i l s e → ReachesLink shape b i m t f → (l ≡ m) ↔ SamePlace shape i s t

abbrev pub AllKeepPlaces : Shape → Behaviours → Type 0
AllKeepPlaces shape b = (i : ℕ) → i < length shape.parts → KeepsPlaces shape b i

-- The link l must come before the link m: some component that has both reaches l, and reaches m at later places alone, or never.
-- (So it first reaches l at an earlier place than m, or it reaches l and never m.)
pub record MustPrecede (shape : Shape) (b : Behaviours) (l m : ℕ) : Type 0 where
  pub part : ℕ
  pub run : List ℕ
  pub event : ℕ
  pub reaches : ReachesLink shape b part l run event
  pub within : m < length shape.links
  pub end : IsTrue (is_end shape part m)
  pub later : (s : List ℕ) (e : ℕ) → ReachesLink shape b part m s e → place_after shape run < place_after shape s

-- the numbers of the links rise along the order of each component
abbrev pub NumbersRise : Shape → Behaviours → (ℕ → ℕ) → Type 0
NumbersRise shape b number = (l m : ℕ) → MustPrecede shape b l m → number l < number m

pub record CanBeNumbered (shape : Shape) (b : Behaviours) : Type 0 where
  pub number : ℕ → ℕ
  pub rise : NumbersRise shape b number

-- The component i, an end of the link l, falls short after the trace s: an acceptance that lies in the vocabulary has an event of the
-- link and lacks another.
pub record FallsShort (shape : Shape) (b : Behaviours) (l i : ℕ) (s : List ℕ) : Type 0 where
  pub acceptance : List ℕ
  pub accepts : b.accepts i s acceptance
  pub meets : Meet acceptance (link_at shape l).shared
  pub missing : ℕ
  pub on : IsTrue (has (link_at shape l).shared missing)
  pub lacks : has acceptance missing ≡ false

abbrev pub IsWholeEnd : Shape → Behaviours → ℕ → ℕ → Type 0
IsWholeEnd shape b l i = (s : List ℕ) → FallsShort shape b l i s → ⊥

-- C2: one end of the link at least never falls short
abbrev pub HasWholeEnd : Shape → Behaviours → ℕ → Type 0
HasWholeEnd shape b l = IsWholeEnd shape b l (link_at shape l).left ⊎ IsWholeEnd shape b l (link_at shape l).right

pub record IsCyclic (shape : Shape) (b : Behaviours) : Type 0 where
  pub order : AllKeepPlaces shape b
  pub numbered : CanBeNumbered shape b
  pub whole : (l : ℕ) → l < length shape.links → HasWholeEnd shape b l
