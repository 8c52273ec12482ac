-- A rule with what a script notes for it of each component: what it comes to for a network.
use Rattle.std.specs.Prelude.{◌≡◌, ℕ, Ok}
use Rattle.csp_program.specs.Outcome.{Outcome, and_then}
use Rattle.csp_tables.specs.Prelude.{leaves}
use Rattle.csp_tables.specs.declared.rule.Rule.{Rule}
use Rattle.csp_tables.specs.declared.rule.Rule.TheVariants.{ClientServer, Cyclic, Resource}
use Rattle.design_rules.specs.Prelude.{NetworkHasGreatestRank, NetworkBreaks, NetworkMeets}
use Rattle.design_rules.specs.declared.noted_rule.NotedRule.{NotedRule}
use Rattle.design_rules.specs.declared.rule_fault.RuleFault.{RuleFault}
use Rattle.design_rules.specs.declared.noted_rule.NotedRule.TheVariants as noted
use Rattle.network_layout.specs.Told.{IsUntold}
use Rattle.network_layout.specs.declared.told.NotedFault.{NotedFault}
use Rattle.network_stages.specs.Networks.{Network}
use Rattle.network_trees.specs.Annotations.{component_roles, component_uses}
use Rattle.process_steps.specs.Prelude.{ProcessStep, all_outcomes}
use Rattle.report.specs.declared.answer.Refusal.{Refusal}
use Rattle.report.specs.declared.answer.Shortfall.{Shortfall}
use Rattle.report.specs.declared.answer.Shortfall.TheVariants as shortfall
use Rattle.report.specs.declared.answer.Refusal.TheVariants as refusal
use Rattle.report.specs.declared.answer.Site.TheVariants as site

-- the rule with what the program notes for it of the network's components
abbrev pub notes_of : Network → Rule → Outcome NotedRule
notes_of network Cyclic = Ok noted.Cyclic
notes_of network ClientServer = and_then (all_outcomes (component_roles network.program) (leaves network.tree)) (λ roles. Ok (noted.ClientServer roles))
notes_of network Resource = and_then (all_outcomes (component_uses network.program) (leaves network.tree)) (λ uses. Ok (noted.Resource uses))

abbrev pub Notes : Network → Rule → NotedRule → Type 0
Notes network rule noted = notes_of network rule ≡ Ok noted

abbrev pub noted_refusal : NotedFault → Refusal
noted_refusal fault = refusal.Value fault.kind (site.Annotation fault.part)

-- an annotated set of a component has no value
abbrev pub HasUntold : Network → Rule → Refusal → Type 0
HasUntold network Cyclic r = ⊥
HasUntold network ClientServer r = (f : NotedFault) × IsUntold (component_roles network.program) (leaves network.tree) f × (r ≡ noted_refusal f)
HasUntold network Resource r = (f : NotedFault) × IsUntold (component_uses network.program) (leaves network.tree) f × (r ≡ noted_refusal f)

-- the network meets the rule
abbrev pub Meets : Network → NotedRule → Type 0
Meets network rule = NetworkMeets (ProcessStep network.program) (leaves network.tree) rule

-- what is told is a fault that breaks the rule in it
abbrev pub Breaks : Network → NotedRule → Shortfall → Type 0
Breaks network rule s = (f : RuleFault) × NetworkBreaks (ProcessStep network.program) (leaves network.tree) rule f × (s ≡ shortfall.Breaks f)

-- its greatest rank by the rule
abbrev pub HasGreatestRank : Network → NotedRule → ℕ → Type 0
HasGreatestRank network rule rank = NetworkHasGreatestRank (ProcessStep network.program) (leaves network.tree) rule rank
