-- What is told where a network is none of clients and servers: the least condition of S1 to S5 that is broken, with the first
-- component that breaks it, and a trace after which it does; or a circle of clients.
use Rattle.std.specs.Prelude.{◌≡◌, ◌<◌, ℕ, List, [], length}
use Rattle.csp_tables.specs.Prelude.{Shape, link_at, RoleSets}
use Rattle.digraph.specs.Circle.{IsLeastCircle}
use Rattle.design_rules.specs.Behaviours.{Behaviours}
use Rattle.design_rules.specs.ClientServerRule.{HasRoles, HasClient, TakesTurns, ServesAll, TakesAnswers, Serves, KeepRoles}
use Rattle.design_rules.specs.FirstBroken.{AllKeep, IsFirstBroken}
use Rattle.design_rules.specs.declared.condition.Condition.{Condition}
use Rattle.design_rules.specs.declared.condition.Condition.TheVariants as condition

-- S1 is broken
pub record LacksRoles (shape : Shape) (roles : List RoleSets) (i : ℕ) : Type 0 where
  pub within : i < length shape.parts
  pub broken : HasRoles shape roles i → ⊥
  pub first : (j : ℕ) → j < i → HasRoles shape roles j

-- S2 is broken; the component is the left end of the first link that has no client
pub record LacksClient (shape : Shape) (roles : List RoleSets) (i : ℕ) : Type 0 where
  pub parted : (j : ℕ) → j < length shape.parts → HasRoles shape roles j
  pub link : ℕ
  pub within : link < length shape.links
  pub broken : HasClient shape roles link → ⊥
  pub first : (m : ℕ) → m < link → HasClient shape roles m
  pub left : (link_at shape link).left ≡ i

-- S1 and S2
pub record HaveClients (shape : Shape) (roles : List RoleSets) : Type 0 where
  pub parted : (i : ℕ) → i < length shape.parts → HasRoles shape roles i
  pub linked : (l : ℕ) → l < length shape.links → HasClient shape roles l

-- The condition is the least that is broken, by the component i after the trace s. For S1 and S2 the trace is empty.
abbrev pub BreaksRoles : Shape → Behaviours → List RoleSets → Condition → ℕ → List ℕ → Type 0
BreaksRoles shape b roles condition.Roles i s = (s ≡ []) × LacksRoles shape roles i
BreaksRoles shape b roles condition.Clients i s = (s ≡ []) × LacksClient shape roles i
BreaksRoles shape b roles condition.Turns i s = HaveClients shape roles × IsFirstBroken b (TakesTurns shape b roles) i s
BreaksRoles shape b roles condition.Service i s = HaveClients shape roles × AllKeep (TakesTurns shape b roles) × IsFirstBroken b (ServesAll shape b roles) i s
BreaksRoles shape b roles condition.Answers i s = HaveClients shape roles × AllKeep (TakesTurns shape b roles) × AllKeep (ServesAll shape b roles) × IsFirstBroken b (TakesAnswers shape b roles) i s
BreaksRoles shape b roles _ i s = ⊥

-- S6 alone is broken: each component is a client of the next, and the last is one of the first
pub record ClientsInCircle (shape : Shape) (b : Behaviours) (roles : List RoleSets) (clients : List ℕ) : Type 0 where
  pub keep_roles : KeepRoles shape b roles
  pub circle : IsLeastCircle (Serves shape roles) clients
