-- What is told where a network is none of users and resources: the least condition of U1 to U4 that is broken, with the first
-- component that breaks it, and a trace after which it does; or a circle of resources.
use Rattle.std.specs.Prelude.{◌≡◌, ◌<◌, ℕ, List, [], true, false, length}
use Rattle.csp_tables.specs.Prelude.{Shape, link_at, UseSets, use_at}
use Rattle.digraph.specs.Circle.{IsLeastCircle}
use Rattle.design_rules.specs.Behaviours.{Behaviours}
use Rattle.design_rules.specs.FirstBroken.{AllKeep, IsFirstBroken}
use Rattle.design_rules.specs.declared.condition.Condition.{Condition}
use Rattle.design_rules.specs.declared.condition.Condition.TheVariants as condition
use Rattle.design_rules.specs.ResourceRule.{JoinsKinds, HasUses, HaveKinds, IsUsedInTurn, GrantsAll, UsesInTurn, KeepUses, IsHeldWhile}

-- What U1 asks of one component: a link counts as its left end, and a resource's sets as the resource.
pub record HasKind (shape : Shape) (uses : List UseSets) (i : ℕ) : Type 0 where
  pub linked : (l : ℕ) → l < length shape.links → (link_at shape l).left ≡ i → JoinsKinds shape uses l
  pub parted : HasUses shape uses i

-- U1 is broken
pub record LacksKind (shape : Shape) (uses : List UseSets) (i : ℕ) : Type 0 where
  pub within : i < length shape.parts
  pub broken : HasKind shape uses i → ⊥
  pub first : (j : ℕ) → j < i → HasKind shape uses j

-- U2, U3 and U4, of one component after one trace
abbrev pub KeepsHolder : Shape → Behaviours → List UseSets → ℕ → List ℕ → Type 0
KeepsHolder shape b uses i s = (use_at uses i).resource ≡ true → IsUsedInTurn shape b uses i s

abbrev pub KeepsGrants : Shape → Behaviours → List UseSets → ℕ → List ℕ → Type 0
KeepsGrants shape b uses i s = (use_at uses i).resource ≡ true → GrantsAll shape b uses i s

abbrev pub KeepsTurns : Shape → Behaviours → List UseSets → ℕ → List ℕ → Type 0
KeepsTurns shape b uses i s = (use_at uses i).resource ≡ false → UsesInTurn shape b uses i s

-- The condition is the least that is broken, by the component i after the trace s. For U1 the trace is empty.
abbrev pub BreaksUses : Shape → Behaviours → List UseSets → Condition → ℕ → List ℕ → Type 0
BreaksUses shape b uses condition.Kinds i s = (s ≡ []) × LacksKind shape uses i
BreaksUses shape b uses condition.Holders i s = HaveKinds shape uses × IsFirstBroken b (KeepsHolder shape b uses) i s
BreaksUses shape b uses condition.Grants i s = HaveKinds shape uses × AllKeep (KeepsHolder shape b uses) × IsFirstBroken b (KeepsGrants shape b uses) i s
BreaksUses shape b uses condition.Uses i s = HaveKinds shape uses × AllKeep (KeepsHolder shape b uses) × AllKeep (KeepsGrants shape b uses) × IsFirstBroken b (KeepsTurns shape b uses) i s
BreaksUses shape b uses _ i s = ⊥

-- U5 alone is broken: each of the resources is held while the next is offered for acquisition, and the last while the first is
pub record ResourcesInCircle (shape : Shape) (b : Behaviours) (uses : List UseSets) (resources : List ℕ) : Type 0 where
  pub keep_uses : KeepUses shape b uses
  pub circle : IsLeastCircle (IsHeldWhile shape b uses) resources
