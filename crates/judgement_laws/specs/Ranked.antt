-- The greatest rank of a network by a rule, with what its program notes for the rule.
use Rattle.std.specs.Prelude.{◌≡◌, ℕ, ℤ, pos}
use Rattle.csp_tables.specs.declared.rule.Rule.{Rule}
use Rattle.design_rules.specs.declared.noted_rule.NotedRule.{NotedRule}
use Rattle.judgement.specs.Noted as noted
use Rattle.network_stages.specs.Networks.{Network}

pub record HasGreatestRank (network : Network) (rule : Rule) (rank : ℤ) : Type 0 where
  pub notes : NotedRule
  pub are : noted.Notes network rule notes
  pub number : ℕ
  pub greatest : noted.HasGreatestRank network notes number
  pub is : rank ≡ pos number
