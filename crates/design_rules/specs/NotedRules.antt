-- A rule with its notes: what it is to meet it, and what each fault tells; then of a network: of its outline, and of its components by their own steps.
use Rattle.std.specs.Prelude.{List}
use Rattle.csp_tables.specs.Prelude.{Label, Component, RoleSets, UseSets, Shape}
use Rattle.design_rules.specs.Behaviours.{Behaviours, by_steps}
use Rattle.design_rules.specs.Outline.{outline}
use Rattle.design_rules.specs.CyclicRule.{IsCyclic}
use Rattle.design_rules.specs.CyclicRuleFaults.{HasNoOrder, OrdersDisagree, HasNoWholeEnd}
use Rattle.design_rules.specs.ClientServerRule.{IsClientServer}
use Rattle.design_rules.specs.ClientServerRuleFaults.{BreaksRoles, ClientsInCircle}
use Rattle.design_rules.specs.ResourceRule.{IsResource}
use Rattle.design_rules.specs.ResourceRuleFaults.{BreaksUses, ResourcesInCircle}
use Rattle.design_rules.specs.declared.noted_rule.NotedRule.{NotedRule}
use Rattle.design_rules.specs.declared.noted_rule.NotedRule.TheVariants.{Cyclic, ClientServer, Resource}
use Rattle.design_rules.specs.declared.rule_fault.RuleFault.{RuleFault}
use Rattle.design_rules.specs.declared.rule_fault.RuleFault.TheVariants.{NoOrder, NoWholeEnd, Broken, LinksCircle, ClientsCircle, ResourcesCircle}

-- components with these alphabets, links and vocabulary, and these behaviours, meet the rule
abbrev pub MeetsRule : NotedRule → Shape → Behaviours → Type 0
MeetsRule Cyclic shape b = IsCyclic shape b
MeetsRule (ClientServer roles) shape b = IsClientServer shape b roles
MeetsRule (Resource uses) shape b = IsResource shape b uses

-- What a fault tells of the cyclic rule, and of the two rules with notes.
abbrev pub BreaksCyclicRule : Shape → Behaviours → RuleFault → Type 0
BreaksCyclicRule shape b (NoOrder part trace event) = HasNoOrder shape b part trace event
BreaksCyclicRule shape b (NoWholeEnd left right left_trace right_trace) = HasNoWholeEnd shape b left right left_trace right_trace
BreaksCyclicRule shape b (LinksCircle links) = OrdersDisagree shape b links
BreaksCyclicRule shape b _ = ⊥

abbrev pub BreaksClientServerRule : Shape → Behaviours → List RoleSets → RuleFault → Type 0
BreaksClientServerRule shape b roles (Broken condition part trace) = BreaksRoles shape b roles condition part trace
BreaksClientServerRule shape b roles (ClientsCircle clients) = ClientsInCircle shape b roles clients
BreaksClientServerRule shape b roles _ = ⊥

abbrev pub BreaksResourceRule : Shape → Behaviours → List UseSets → RuleFault → Type 0
BreaksResourceRule shape b uses (Broken condition part trace) = BreaksUses shape b uses condition part trace
BreaksResourceRule shape b uses (ResourcesCircle resources) = ResourcesInCircle shape b uses resources
BreaksResourceRule shape b uses _ = ⊥

abbrev pub BreaksRule : NotedRule → Shape → Behaviours → RuleFault → Type 0
BreaksRule Cyclic shape b fault = BreaksCyclicRule shape b fault
BreaksRule (ClientServer roles) shape b fault = BreaksClientServerRule shape b roles fault
BreaksRule (Resource uses) shape b fault = BreaksResourceRule shape b uses fault

-- the network of these components meets the rule
abbrev pub NetworkMeets : {T : Type 0} → (T → Label → T → Type 0) → List (Component T) → NotedRule → Type 0
NetworkMeets Step cs rule = MeetsRule rule (outline cs) (by_steps Step cs (outline cs).vocabulary)

-- what a fault tells of the network
abbrev pub NetworkBreaks : {T : Type 0} → (T → Label → T → Type 0) → List (Component T) → NotedRule → RuleFault → Type 0
NetworkBreaks Step cs rule fault = BreaksRule rule (outline cs) (by_steps Step cs (outline cs).vocabulary) fault
