-- A network is live, with its silent bound, where a well-formed shape whose tables have the behaviour of its components meets
-- one of the rules: the rule's ranking is good.
use Rattle.std.specs.Prelude.{ℕ}
use Rattle.csp_tables.specs.Prelude.{Label, Live, Tree, NetworkStep, leaves, Shape, IsWellFormed, HaveBehaviours, Ranking}
use Rattle.design_rules.specs.Rules.{Meets, Ranks}
use Rattle.design_rules.specs.declared.noted_rule.NotedRule.{NotedRule}
use Rattle.net_sound.specs.Soundness.{IsSound}

abbrev pub MetRulesMeanLive : {T : Type 0} → (T → Label → T → Type 0) → Type 0
MetRulesMeanLive {T} Step = (tree : Tree T) (bound : ℕ) (shape : Shape) (rule : NotedRule) (ranking : Ranking) → IsSound Step tree bound → IsWellFormed shape → HaveBehaviours Step (leaves tree) shape.parts → Meets rule shape → Ranks rule shape ranking → Live (NetworkStep Step) tree bound
