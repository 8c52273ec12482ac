-- The rule of cyclic networks by numbers, as textbooks have it (Roscoe and Dathi 1987; chapter 13 of Roscoe 1997). The links are numbered so that two links
-- of one component differ. Each component goes through its links in rising order, again and again: after c shared events a component with k links is at its
-- link number c modulo k, counted from 0. And on each link one end at least, whenever the link is its next, accepts all of the link's events. Over a network
-- where no component is ever empty-handed this is the rule of CyclicRule.
use Rattle.std.specs.Prelude.{◌≡◌, ◌<◌, ◌%◌, ◌⊎◌, ◌&&◌, nat_lt, ℕ, List, IsTrue, length}
use Rattle.csp_tables.specs.Prelude.{IsWithin, Shape, is_end, link_at, IsOn}
use Rattle.design_rules.specs.Behaviours.{Behaviours}
use Rattle.design_rules.specs.Counts.{count_below}
use Rattle.design_rules.specs.CyclicRule.{links_of, place_after}

-- the place of the link l in the order of the component i: how many of its links have a smaller number
abbrev pub place_of : Shape → (ℕ → ℕ) → ℕ → ℕ → ℕ
place_of shape number i l = count_below (λ m. is_end shape i m && nat_lt (number m) (number l)) (length shape.links)

-- the link is next at the component i after the trace s
abbrev pub IsNext : Shape → (ℕ → ℕ) → ℕ → List ℕ → ℕ → Type 0
IsNext shape number i s l = place_of shape number i l ≡ place_after shape s % links_of shape i

-- the two links of the component i have different numbers, if they are two
abbrev pub Differ : Shape → (ℕ → ℕ) → ℕ → ℕ → ℕ → Type 0
Differ shape number i l m =
    l < length shape.links → m < length shape.links → IsTrue (is_end shape i l) → IsTrue (is_end shape i m) → (l ≡ m → ⊥) → number l ≡ number m → ⊥

abbrev pub LinksDiffer : Shape → (ℕ → ℕ) → Type 0
LinksDiffer shape number = (i l m : ℕ) → Differ shape number i l m

-- The same of each link that the component reaches: links that it never reaches may share a number.
abbrev pub ReachedLinksDiffer : Shape → Behaviours → (ℕ → ℕ) → Type 0
ReachedLinksDiffer shape b number =
    (i l m : ℕ) (s : List ℕ) (e : ℕ) → b.possible i s e → IsOn shape i l e → m < length shape.links → IsTrue (is_end shape i m) → (l ≡ m → ⊥) → number l ≡ number m → ⊥

-- C1, of the component i: a shared event that is possible lies on the link that is next
abbrev pub GoesInOrder : Shape → Behaviours → (ℕ → ℕ) → ℕ → Type 0
GoesInOrder shape b number i = (l : ℕ) (s : List ℕ) (e : ℕ) → b.possible i s e → IsOn shape i l e → IsNext shape number i s l

abbrev pub KeepsOrder : Shape → Behaviours → (ℕ → ℕ) → Type 0
KeepsOrder shape b number = (i : ℕ) → GoesInOrder shape b number i

-- whenever the link is next at the component i, an acceptance in the vocabulary has all of the link's events
abbrev pub IsFullEnd : Shape → Behaviours → (ℕ → ℕ) → ℕ → ℕ → Type 0
IsFullEnd shape b number l i = (s M : List ℕ) → b.accepts i s M → IsNext shape number i s l → IsWithin (link_at shape l).shared M

-- C2: each link has such an end
abbrev pub HasFullEnds : Shape → Behaviours → (ℕ → ℕ) → Type 0
HasFullEnds shape b number = (l : ℕ) → l < length shape.links → IsFullEnd shape b number l (link_at shape l).left ⊎ IsFullEnd shape b number l (link_at shape l).right

pub record IsNumberedCyclic (shape : Shape) (b : Behaviours) : Type 0 where
  pub number : ℕ → ℕ
  pub differ : LinksDiffer shape number
  pub order : KeepsOrder shape b number
  pub full : HasFullEnds shape b number

-- C1 of the component i alone: its links have an order that it keeps
pub record HasOrder (shape : Shape) (b : Behaviours) (i : ℕ) : Type 0 where
  pub number : ℕ → ℕ
  pub differ : (l m : ℕ) → Differ shape number i l m
  pub order : GoesInOrder shape b number i
