-- When a network passes a check. (That it is spelled holds the limits of scripts and of networks; that its components have tables, those of components.)
use Rattle.std.specs.Prelude.{◌≡◌, ◌↔◌, List}
use Rattle.csp_tables.specs.Prelude.{leaves, TripleDisjoint}
use Rattle.csp_tables.specs.declared.rule.Rule.{Rule}
use Rattle.csp_text.specs.declared.script.Script.{Script}
use Rattle.design_rules.specs.declared.noted_rule.NotedRule.{NotedRule}
use Rattle.judgement.specs.Judged.{IsJudged}
use Rattle.judgement.specs.Noted.{Meets, Notes}
use Rattle.network_layout.specs.Triple.{alphabets}
use Rattle.network_stages.specs.Prelude.{IsNetworkOf, Network, HaveFewSets, HasTables, StaysBusy}
use Rattle.network_stages.specs.declared.component_tables.ComponentTable.{ComponentTable}
use Rattle.report.specs.Prelude.{verdict_status}
use Rattle.report.specs.declared.answer.Verdict.{Verdict}

-- Each component has a table: it reaches finitely many terms, within the limits, of which none can end or lacks a value or goes round in silent steps.
-- Its traces lead to few sets of terms. No event is in three alphabets, and all components are busy. The annotated sets that the rule reads have
-- values, and the network meets the rule.
pub record Passes (network : Network) (rule : Rule) : Type 0 where
  pub tables : List ComponentTable
  pub are : HasTables network tables
  pub few : HaveFewSets network.program (leaves network.tree)
  pub apart : TripleDisjoint (alphabets (leaves network.tree))
  pub busy : StaysBusy network
  pub notes : NotedRule
  pub noted : Notes network rule notes
  pub meets : Meets network notes

-- Two verdicts on the network of one script by one rule have the same status. (Where a definition leaves a choice, as of a trace, it is among verdicts of one
-- status.)
abbrev pub EachScriptHasOneStatus : Type 0
EachScriptHasOneStatus =
    (script : Script) (network other : Network) (rule : Rule) (v w : Verdict) → IsNetworkOf script network → IsNetworkOf script other → IsJudged network rule v → IsJudged other rule w
    → verdict_status v ≡ verdict_status w

-- the verdict on a network has the status 0 exactly where the network passes
abbrev pub JudgementIsExact : Type 0
JudgementIsExact = (network : Network) (rule : Rule) (v : Verdict) → IsJudged network rule v → (verdict_status v ≡ 0) ↔ Passes network rule
