-- The verdict on a network that is judged by a rule: the points at which it is refused or not proved, in their order, and then that it is free of deadlock.
use Rattle.std.specs.Prelude.{◌≡◌, ℕ, pos, length}
use Rattle.csp_tables.specs.Prelude.{leaves, Shape}
use Rattle.csp_tables.specs.declared.rule.Rule.{Rule}
use Rattle.design_rules.specs.declared.noted_rule.NotedRule.{NotedRule}
use Rattle.network_stages.specs.Prelude.{HasSilentBound, IsLive, Network, IsApart, CanStop, HasNoParts, HasNoTables, HasParts, HasTables, ShareEvent, StaysBusy}
use Rattle.report.specs.Prelude.{RefusedOr, UnprovedOr, UnprovedUnless}
use Rattle.report.specs.declared.answer.Verdict.{Verdict}
use Rattle.report.specs.declared.answer.Done.TheVariants as done
use Rattle.report.specs.declared.answer.Side.TheVariants as side
use Rattle.report.specs.declared.answer.Verdict.TheVariants as verdict
use Rattle.judgement.specs.Counts.{node_count}
use Rattle.judgement.specs.Noted.{Breaks, HasGreatestRank, HasUntold, Meets, Notes}

-- The network is live, with exactly its silent bound, and the verdict says so, with its greatest rank by the rule.
pub record IsDeadlockFree (network : Network) (rule : Rule) (noted : NotedRule) (shape : Shape) (v : Verdict) : Type 0 where
  pub bound : ℕ
  pub exact : HasSilentBound network bound
  pub live : IsLive network bound
  pub rank : ℕ
  pub greatest : HasGreatestRank network noted rank
  pub is : v ≡ verdict.Done (done.DeadlockFree rule (length (leaves network.tree)) (node_count shape.parts) bound (pos rank))

-- an annotated set has no value; the rule is broken
unfoldable pub RuleDecides : Network → Rule → Shape → Verdict → Type 0
RuleDecides network rule shape =
    RefusedOr side.Script (HasUntold network rule) (Notes network rule) (λ noted.
    UnprovedUnless (Breaks network noted) (Meets network noted) (IsDeadlockFree network rule noted shape))

-- a component has no table; it has too many sets of terms; an event is in three alphabets; a component can stop
unfoldable pub IsJudged : Network → Rule → Verdict → Type 0
IsJudged network rule =
    RefusedOr side.Script (HasNoTables network) (HasTables network) (λ tables.
    RefusedOr side.Script (HasNoParts network) (HasParts network) (λ parts.
    UnprovedOr (ShareEvent network) (IsApart network) (λ shape.
    UnprovedUnless (CanStop network) (StaysBusy network) (RuleDecides network rule shape))))
