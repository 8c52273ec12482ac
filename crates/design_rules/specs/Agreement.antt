-- A network and its shape say the same. The shape's links are those of the outline, under the same numbers, and its vocabulary is that one; and what the
-- components do by their own steps is what the parts do by their tables. So a network meets a rule exactly where its shape does, and a fault is true of
-- the one exactly where it is true of the other.
use Rattle.std.specs.Prelude.{◌≡◌, ◌↔◌, ℕ, List, length}
use Rattle.csp_base.specs.Members.{has}
use Rattle.csp_tables.specs.Prelude.{Label, Tree, leaves, part_at, Shape, link_at, IsShapeOf}
use Rattle.design_rules.specs.Behaviours.{Behaviours, by_steps}
use Rattle.design_rules.specs.ByTables.{by_tables}
use Rattle.design_rules.specs.NotedRules.{NetworkMeets, NetworkBreaks}
use Rattle.design_rules.specs.Outline.{outline}
use Rattle.design_rules.specs.Rules.{Meets, Breaks}
use Rattle.design_rules.specs.declared.noted_rule.NotedRule.{NotedRule}
use Rattle.design_rules.specs.declared.rule_fault.RuleFault.{RuleFault}

-- as many components with the same alphabets, the same links under the same numbers, and the same vocabulary; of sets the members count
pub record SameOutline (x y : Shape) : Type 0 where
  pub parts : length x.parts ≡ length y.parts
  pub alphabets : (i e : ℕ) → has (part_at x.parts i).alphabet e ≡ has (part_at y.parts i).alphabet e
  pub links : length x.links ≡ length y.links
  pub left : (l : ℕ) → (link_at x l).left ≡ (link_at y l).left
  pub right : (l : ℕ) → (link_at x l).right ≡ (link_at y l).right
  pub shared : (l e : ℕ) → has (link_at x l).shared e ≡ has (link_at y l).shared e
  pub vocabulary : (e : ℕ) → has x.vocabulary e ≡ has y.vocabulary e

-- a set with the members of M is accepted
pub record AcceptsSame (b : Behaviours) (i : ℕ) (s M : List ℕ) : Type 0 where
  pub set : List ℕ
  pub accepts : b.accepts i s set
  pub members : (e : ℕ) → has set e ≡ has M e

-- the same traces, after each the same events, and the same acceptances
pub record Agree (b c : Behaviours) : Type 0 where
  pub traces : (i : ℕ) (s : List ℕ) → b.trace i s ↔ c.trace i s
  pub possible : (i : ℕ) (s : List ℕ) (e : ℕ) → b.possible i s e ↔ c.possible i s e
  pub accepted : (i : ℕ) (s M : List ℕ) → b.accepts i s M → AcceptsSame c i s M
  pub accepts : (i : ℕ) (s M : List ℕ) → c.accepts i s M → AcceptsSame b i s M

abbrev pub OutlinesAgree : {T : Type 0} → (T → Label → T → Type 0) → Type 0
OutlinesAgree {T} Step = (tree : Tree T) (shape : Shape) → IsShapeOf Step tree shape → SameOutline shape (outline (leaves tree))

abbrev pub ReadingsAgree : {T : Type 0} → (T → Label → T → Type 0) → Type 0
ReadingsAgree {T} Step = (tree : Tree T) (shape : Shape) → IsShapeOf Step tree shape → Agree (by_tables shape) (by_steps Step (leaves tree) (outline (leaves tree)).vocabulary)

-- the network meets the rule exactly where its shape does
abbrev pub NetworksMeet : {T : Type 0} → (T → Label → T → Type 0) → Type 0
NetworksMeet {T} Step = (tree : Tree T) (shape : Shape) → IsShapeOf Step tree shape → (rule : NotedRule) → Meets rule shape ↔ NetworkMeets Step (leaves tree) rule

-- a fault is true of the network exactly where it is true of its shape
abbrev pub NetworksBreak : {T : Type 0} → (T → Label → T → Type 0) → Type 0
NetworksBreak {T} Step = (tree : Tree T) (shape : Shape) → IsShapeOf Step tree shape → (rule : NotedRule) (fault : RuleFault) → Breaks rule shape fault ↔ NetworkBreaks Step (leaves tree) rule fault

-- what a fault tells of a network refutes the rule
abbrev pub NetworkFaultsRefute : {T : Type 0} → (T → Label → T → Type 0) → Type 0
NetworkFaultsRefute {T} Step =
    (tree : Tree T) (shape : Shape) → IsShapeOf Step tree shape → (rule : NotedRule) (fault : RuleFault)
    → NetworkMeets Step (leaves tree) rule → NetworkBreaks Step (leaves tree) rule fault → ⊥
