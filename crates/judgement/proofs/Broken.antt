-- What breaks a rule, told of a network: what its shape breaks, the network does.
use Rattle.judgement.proofs.Prelude.{refl, Shape, IsShapeOf, networks_break, NotedRule, Network, ProcessStep, Breaks, RuleFault}
use Rattle.design_rules.specs.Rules as rules
use Rattle.report.specs.declared.answer.Shortfall.TheVariants as shortfall

pub network_broken : (network : Network) (shape : Shape) → IsShapeOf (ProcessStep network.program) network.tree shape → (rule : NotedRule) (f : RuleFault)
    → rules.Breaks rule shape f → Breaks network rule (shortfall.Breaks f)
network_broken network shape is rule f broken = (f, (networks_break (ProcessStep network.program) network.tree shape is rule f).0 broken, refl)
