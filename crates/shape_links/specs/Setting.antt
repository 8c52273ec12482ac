-- A shape with what is noted of its resources. (No rule's decider cites this.)
use Rattle.std.specs.Prelude.{◌≡◌, ℕ, List, true, false}
use Rattle.csp_tables.specs.Prelude.{Shape, UseSets, use_at, Node, node_at, part_at}
use Rattle.design_rules.specs.Resource.{HaveKinds}

pub record Setting : Type 0 where
  pub shape : Shape
  pub uses : List UseSets

abbrev pub IsResourcePart : Setting → ℕ → Type 0
IsResourcePart g i = (use_at g.uses i).resource ≡ true

abbrev pub IsUser : Setting → ℕ → Type 0
IsUser g i = (use_at g.uses i).resource ≡ false

-- the node n of the part i
abbrev pub node_of : Setting → ℕ → ℕ → Node
node_of g i n = node_at (part_at g.shape.parts i).table n

-- U1
abbrev pub KeepKinds : Setting → Type 0
KeepKinds g = HaveKinds g.shape g.uses
