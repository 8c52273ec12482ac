-- What is told of a shape with its resources. (No rule's decider cites this.)
use Rattle.std.specs.Prelude.{◌≡◌, ◌<◌, ℕ, List, not, length}
use Rattle.csp_tables.specs.Prelude.{link_at, use_at}
use Rattle.design_rules.specs.Prelude.{JoinsKinds, HasUses, BreaksResource}
use Rattle.design_rules.specs.declared.rule_fault.RuleFault.{RuleFault}
use Rattle.design_rules.specs.Resource.{IsUsedInTurn, GrantsAll, UsesInTurn}
use Rattle.shape_links.specs.Setting.{Setting, IsResourcePart, IsUser}

abbrev pub Breaks : Setting → RuleFault → Type 0
Breaks g fault = BreaksResource g.shape g.uses fault

-- what U1 asks of the links with this left end, and of the sets of this part
abbrev pub HasLinked : Setting → ℕ → Type 0
HasLinked g i = (l : ℕ) → l < length g.shape.links → (link_at g.shape l).left ≡ i → JoinsKinds g.shape g.uses l

abbrev pub HasParted : Setting → ℕ → Type 0
HasParted g i = HasUses g.shape g.uses i

-- U2, U3 and U4
abbrev pub KeepTurns : Setting → Type 0
KeepTurns g = (i : ℕ) (s : List ℕ) → IsResourcePart g i → IsUsedInTurn g.shape g.uses i s

abbrev pub KeepGrants : Setting → Type 0
KeepGrants g = (i : ℕ) (s : List ℕ) → IsResourcePart g i → GrantsAll g.shape g.uses i s

abbrev pub UsersKeepTurns : Setting → Type 0
UsersKeepTurns g = (i : ℕ) (s : List ℕ) → IsUser g i → UsesInTurn g.shape g.uses i s

-- one of the two parts is a resource and the other a user
abbrev pub AreOtherKinds : Setting → ℕ → ℕ → Type 0
AreOtherKinds g i j = (use_at g.uses i).resource ≡ not (use_at g.uses j).resource
