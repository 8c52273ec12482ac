-- A cyclic network's ranking is good, and the rule can be said by numbers.
--
-- Why the ranking falls: a component comes to each link that it reaches at one place of its lap, which is also how many of its
-- links have smaller numbers. So let a component have k links, and let it have done t shared events. It has done t / k laps,
-- and on its link with place p it has done t / k events, or one more where p < t % k. Now let i ask j for an event of their
-- link L, and let nothing of it be granted. L is next at i, so i's laps are the number of L's events so far. If L is next at j
-- too, both acceptances meet L, and one of the two has all events of L: a contradiction. If j's next link has a lower number,
-- j has done with L in this lap and both have as many laps, and the rank falls. If it has a higher number, j is a lap behind,
-- and the scale is above all ranks.
use Rattle.std.specs.Prelude.{◌↔◌, ℕ, List}
use Rattle.csp_tables.specs.Prelude.{Label, Component, Tree, leaves, Shape, IsWellFormed, AreBusy, IsShapeOf, IsBusyShape, Ranking, Falls}
use Rattle.design_rules.specs.Behaviours.{by_steps}
use Rattle.design_rules.specs.Cyclic.{KeepsPlaces, IsCyclic}
use Rattle.design_rules.specs.ByTables.{by_tables}
use Rattle.design_rules.specs.CyclicNumbered.{ReachedLinksDiffer, KeepsOrder, HasFullEnds, HasOrder, IsNumberedCyclic}
use Rattle.design_rules.specs.NotedRules.{NetworkMeets}
use Rattle.design_rules.specs.Outline.{outline}
use Rattle.design_rules.specs.declared.noted_rule.NotedRule.TheVariants.{Cyclic}
use Rattle.design_rules.specs.CyclicRanking.{AreCyclicRanks, IsCyclicRanking}

abbrev pub CyclicRanksFall : Type 0
CyclicRanksFall = (shape : Shape) (ranking : Ranking) → IsWellFormed shape → IsCyclic shape → IsCyclicRanking shape ranking → Falls shape.parts ranking

-- the same for every numbering by which the rule can be said, whether or not its numbers are the smallest
abbrev pub NumberedRanksFall : Type 0
NumberedRanksFall = (shape : Shape) (rule : IsNumberedCyclic shape (by_tables shape)) (ranking : Ranking) → IsWellFormed shape → AreCyclicRanks shape rule.number ranking → Falls shape.parts ranking

-- and where links that a component never reaches share a number
abbrev pub ReachedRanksFall : Type 0
ReachedRanksFall = (shape : Shape) (number : ℕ → ℕ) (ranking : Ranking) → IsWellFormed shape → ReachedLinksDiffer shape (by_tables shape) number → KeepsOrder shape (by_tables shape) number → HasFullEnds shape (by_tables shape) number → AreCyclicRanks shape number ranking → Falls shape.parts ranking

-- A component keeps places exactly where its links have an order that it keeps. (To find the order one has to search for the
-- links that it never reaches; that there is none is refuted without.)
pub record PlacesAreOrders : Type 0 where
  pub sound : (shape : Shape) (i : ℕ) → IsWellFormed shape → KeepsPlaces shape i → (HasOrder shape (by_tables shape) i → ⊥) → ⊥
  pub complete : (shape : Shape) (i : ℕ) → HasOrder shape (by_tables shape) i → KeepsPlaces shape i

-- the rule by numbers is the same, over a shape
pub record IsRuleByNumbers : Type 0 where
  pub sound : (shape : Shape) → IsWellFormed shape → IsBusyShape shape → IsCyclic shape → IsNumberedCyclic shape (by_tables shape)
  pub complete : (shape : Shape) → IsWellFormed shape → IsNumberedCyclic shape (by_tables shape) → IsCyclic shape

-- and over a network: a network whose components are never empty-handed is cyclic exactly where its links can be numbered so
abbrev pub IsNumberedNetwork : {T : Type 0} → (T → Label → T → Type 0) → List (Component T) → Type 0
IsNumberedNetwork Step cs = IsNumberedCyclic (outline cs) (by_steps Step cs (outline cs).vocabulary)

abbrev pub NetworksAreNumbered : {T : Type 0} → (T → Label → T → Type 0) → Type 0
NetworksAreNumbered {T} Step =
    (tree : Tree T) (shape : Shape) → IsShapeOf Step tree shape → AreBusy Step (leaves tree) → NetworkMeets Step (leaves tree) Cyclic ↔ IsNumberedNetwork Step (leaves tree)
