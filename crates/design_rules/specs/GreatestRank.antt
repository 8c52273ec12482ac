-- The rank of an acceptance, by each rule, and the greatest rank of a network that meets the rule. Ranked are the acceptances that lie in the vocabulary and
-- are not empty: at such a one a component waits for others alone. (Brookes and Roscoe 1991; Martin 1996; Roscoe 1997, chapter 13.) Components, links and
-- resources have numbers and heights by longest chains, as there are in a network that meets the rule.
use Rattle.std.specs.Prelude.{◌≡◌, ◌<◌, ◌≤◌, ◌⊎◌, ◌+◌, ◌-◌, ◌*◌, ℕ, zero, suc, max, List, true, false, IsTrue, length, if◌then◌else◌}
use Rattle.digraph.specs.Walk.{IsLongestWalk}
use Rattle.csp_tables.specs.Prelude.{Label, Component, Meet, AreApart, IsNonEmpty, RoleSets, UseSets, role_at, use_at, Shape, is_end, link_at}
use Rattle.design_rules.specs.Behaviours.{Behaviours, by_steps}
use Rattle.design_rules.specs.ClientServerRule.{Serves}
use Rattle.design_rules.specs.CyclicRule.{MustPrecede}
use Rattle.design_rules.specs.Outline.{outline}
use Rattle.design_rules.specs.ResourceRule.{IsHeldWhile, acquires, is_held}
use Rattle.design_rules.specs.declared.noted_rule.NotedRule.{NotedRule}
use Rattle.design_rules.specs.declared.noted_rule.NotedRule.TheVariants.{Cyclic, ClientServer, Resource}

-- from a link to one that must come before it
abbrev pub ComesAfter : Shape → Behaviours → ℕ → ℕ → Type 0
ComesAfter shape b m l = MustPrecede shape b l m

-- Cyclic networks: the rank is the number of the link on which the acceptance lies, the length of the longest chain of links that must come before it.
pub record RanksByLink (shape : Shape) (b : Behaviours) (i : ℕ) (M : List ℕ) (r : ℕ) : Type 0 where
  pub link : ℕ
  pub within : link < length shape.links
  pub end : IsTrue (is_end shape i link)
  pub lies : Meet M (link_at shape link).shared
  pub number : IsLongestWalk (ComesAfter shape b) link r

-- Clients and servers: the height of a component is the length of the longest chain from it to servers, their servers and so on. Where the acceptance has
-- requests to the component, the rank is twice the number of components less the height; elsewhere it is the height.
pub record RanksByHeight (shape : Shape) (roles : List RoleSets) (i : ℕ) (M : List ℕ) (r : ℕ) : Type 0 where
  pub height : ℕ
  pub longest : IsLongestWalk (Serves shape roles) i height
  pub rank : Meet M (role_at roles i).sreq × (r + height ≡ 2 * length shape.parts) ⊎ AreApart M (role_at roles i).sreq × (r ≡ height)

-- from a resource to one that a user holds while it offers to acquire the first
abbrev pub StandsAbove : Shape → Behaviours → List UseSets → ℕ → ℕ → Type 0
StandsAbove shape b uses j m = IsHeldWhile shape b uses m j

-- the number of a resource is one more than the length of the longest chain below it
pub record IsResourceNumber (shape : Shape) (b : Behaviours) (uses : List UseSets) (j n : ℕ) : Type 0 where
  pub below : ℕ
  pub longest : IsLongestWalk (StandsAbove shape b uses) j below
  pub number : n ≡ below + 1

abbrev pub AreResourceNumbers : Shape → Behaviours → List UseSets → (ℕ → ℕ) → Type 0
AreResourceNumbers shape b uses number = (j : ℕ) → j < length shape.parts → (use_at uses j).resource ≡ true → IsResourceNumber shape b uses j (number j)

-- the greatest number of a resource among the first n components, 0 if there is none
abbrev pub top_number : List UseSets → (ℕ → ℕ) → ℕ → ℕ
top_number uses number zero = 0
top_number uses number (suc n) = max (if (use_at uses n).resource then number n else 0) (top_number uses number n)

-- of the resources that the set acquires, j has the least number
pub record IsLeastAcquired (shape : Shape) (uses : List UseSets) (number : ℕ → ℕ) (M : List ℕ) (j : ℕ) : Type 0 where
  pub within : j < length shape.parts
  pub acquired : IsTrue (acquires uses M j)
  pub least : (m : ℕ) → m < length shape.parts → IsTrue (acquires uses M m) → number j ≤ number m

-- Users and resources, by the resources' numbers and the greatest of them: a free resource ranks above all. A held one, and a user that offers to acquire,
-- rank the lower the higher the number is. A user that offers to acquire nothing ranks 0.
pub data RanksByNumber (shape : Shape) (uses : List UseSets) (number : ℕ → ℕ) (top i : ℕ) (s M : List ℕ) (r : ℕ) : Type 0 where
  free : (use_at uses i).resource ≡ true → is_held shape s ≡ false → r ≡ 2 * top + 2 → RanksByNumber shape uses number top i s M r
  held : (use_at uses i).resource ≡ true → is_held shape s ≡ true → r ≡ 2 * (top - number i) + 1 → RanksByNumber shape uses number top i s M r
  acquiring : (j : ℕ) → (use_at uses i).resource ≡ false → IsLeastAcquired shape uses number M j → r ≡ 2 * (top - number j) + 2 → RanksByNumber shape uses number top i s M r
  idle : (use_at uses i).resource ≡ false → ((j : ℕ) → j < length shape.parts → acquires uses M j ≡ false) → r ≡ 0 → RanksByNumber shape uses number top i s M r

pub record RanksByUses (shape : Shape) (b : Behaviours) (uses : List UseSets) (i : ℕ) (s M : List ℕ) (r : ℕ) : Type 0 where
  pub number : ℕ → ℕ
  pub numbers : AreResourceNumbers shape b uses number
  pub rank : RanksByNumber shape uses number (top_number uses number (length shape.parts)) i s M r

-- by the rule the acceptance M of the component i after the trace s has the rank r
abbrev pub RanksAs : NotedRule → Shape → Behaviours → ℕ → List ℕ → List ℕ → ℕ → Type 0
RanksAs Cyclic shape b i s M r = RanksByLink shape b i M r
RanksAs (ClientServer roles) shape b i s M r = RanksByHeight shape roles i M r
RanksAs (Resource uses) shape b i s M r = RanksByUses shape b uses i s M r

-- after some trace a component can come to accept a set of this rank, which lies in the vocabulary and is not empty
pub record HasRank (rule : NotedRule) (shape : Shape) (b : Behaviours) (r : ℕ) : Type 0 where
  pub component : ℕ
  pub trace : List ℕ
  pub acceptance : List ℕ
  pub accepts : b.accepts component trace acceptance
  pub some : IsNonEmpty acceptance
  pub ranks : RanksAs rule shape b component trace acceptance r

-- r is the greatest rank; 0 where there is none
pub record IsGreatestRank (rule : NotedRule) (shape : Shape) (b : Behaviours) (r : ℕ) : Type 0 where
  pub most : (q : ℕ) → HasRank rule shape b q → q ≤ r
  pub attained : (r ≡ 0) ⊎ HasRank rule shape b r

-- the greatest rank of the network of these components, by their own steps
abbrev pub NetworkHasGreatestRank : {T : Type 0} → (T → Label → T → Type 0) → List (Component T) → NotedRule → ℕ → Type 0
NetworkHasGreatestRank Step cs rule r = IsGreatestRank rule (outline cs) (by_steps Step cs (outline cs).vocabulary) r
