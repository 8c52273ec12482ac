-- A rule with its notes, read by the tables of a shape: what its decider decides, and the ranking that it gives.
use Rattle.std.specs.Prelude.{◌≡◌, List, length}
use Rattle.csp_tables.specs.Prelude.{Shape, RoleSets, UseSets, Ranking}
use Rattle.design_rules.specs.ByTables.{by_tables}
use Rattle.design_rules.specs.CyclicRanking.{IsCyclicRanking}
use Rattle.design_rules.specs.ClientServerRanking.{IsClientServerRanking}
use Rattle.design_rules.specs.ResourceRanking.{IsResourceRanking}
use Rattle.design_rules.specs.NotedRules.{MeetsRule, BreaksCyclicRule, BreaksClientServerRule, BreaksResourceRule, BreaksRule}
use Rattle.design_rules.specs.declared.noted_rule.NotedRule.{NotedRule}
use Rattle.design_rules.specs.declared.noted_rule.NotedRule.TheVariants.{Cyclic, ClientServer, Resource}
use Rattle.design_rules.specs.declared.rule_fault.RuleFault.{RuleFault}

-- something is noted of each component
abbrev pub HasNotes : NotedRule → Shape → Type 0
HasNotes Cyclic shape = Unit {0}
HasNotes (ClientServer roles) shape = length roles ≡ length shape.parts
HasNotes (Resource uses) shape = length uses ≡ length shape.parts

-- the shape meets the rule
abbrev pub Meets : NotedRule → Shape → Type 0
Meets rule shape = MeetsRule rule shape (by_tables shape)

-- the ranking is the rule's
abbrev pub Ranks : NotedRule → Shape → Ranking → Type 0
Ranks Cyclic shape ranking = IsCyclicRanking shape ranking
Ranks (ClientServer roles) shape ranking = IsClientServerRanking shape roles ranking
Ranks (Resource uses) shape ranking = IsResourceRanking shape uses ranking

-- what a fault tells of the shape
abbrev pub BreaksCyclic : Shape → RuleFault → Type 0
BreaksCyclic shape = BreaksCyclicRule shape (by_tables shape)

abbrev pub BreaksClientServer : Shape → List RoleSets → RuleFault → Type 0
BreaksClientServer shape = BreaksClientServerRule shape (by_tables shape)

abbrev pub BreaksResource : Shape → List UseSets → RuleFault → Type 0
BreaksResource shape = BreaksResourceRule shape (by_tables shape)

abbrev pub Breaks : NotedRule → Shape → RuleFault → Type 0
Breaks rule shape = BreaksRule rule shape (by_tables shape)

-- what a fault tells refutes the rule
abbrev pub FaultsRefute : Type 0
FaultsRefute = (rule : NotedRule) (shape : Shape) (fault : RuleFault) → Meets rule shape → Breaks rule shape fault → ⊥
