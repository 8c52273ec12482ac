-- What stands where a network is judged free of deadlock: all that the walk found on its way.
use Rattle.judgement_laws.proofs.Prelude.{◌≡◌, List, refl, arith, pos, leaves, Shape, Rule, NotedRule, node_count, IsDeadlockFree, IsJudged, RuleDecides, Meets, Notes, Network, IsApart, HasTables, StaysBusy, HaveFewSets, ComponentTable, ProcessStep, verdict_status, Refusal, Shortfall, Verdict, HaveClasses, JudgementIsExact, Passes, AllGoOn, refused_or, unproved_or, HasGreatestRank}
use Rattle.report.specs.declared.answer.Side.TheVariants as side
use Rattle.report.specs.declared.answer.Verdict.TheVariants as verdict
use Rattle.judgement_laws.proofs.Classes.{shape_has_classes}
use Rattle.judgement_laws.proofs.Complete.{complete}
use Rattle.judgement_laws.proofs.Tables.{all_go_on}

pub record IsJudgedWhole (network : Network) (rule : Rule) (v : Verdict) : Type 0 where
  pub tables : List ComponentTable
  pub are : HasTables network tables
  pub few : HaveFewSets network.program (leaves network.tree)
  pub shape : Shape
  pub apart : IsApart network shape
  pub busy : StaysBusy network
  pub notes : NotedRule
  pub noted : Notes network rule notes
  pub meets : Meets network notes
  pub free : IsDeadlockFree network rule notes shape v

-- What holds of each refusal, of each reason why a network is not proved, and where all was found, holds of the verdict.
pub judged_whole : (network : Network) (rule : Rule) (Q : Verdict → Type 0) → ((r : Refusal) → Q (verdict.Refused side.Script r)) → ((s : Shortfall) → Q (verdict.NotProved s))
    → ((v : Verdict) → IsJudgedWhole network rule v → Q v) → (v : Verdict) → IsJudged network rule v → Q v
unfolding IsJudged RuleDecides
judged_whole network rule Q refused short whole =
    refused_or _ _ _ _ Q refused (λ tables b are.
    refused_or _ _ _ _ Q refused (λ parts c by.
    unproved_or _ _ _ Q short (λ shape d apart.
    unproved_or _ _ _ Q short (λ unit e busy.
    refused_or _ _ _ _ Q refused (λ notes f noted.
    unproved_or _ _ _ Q short (λ unit' g meets free.
    whole g (record {
      tables = tables;
      are = are;
      few = by.few;
      shape = shape;
      apart = apart;
      busy = busy;
      notes = notes;
      noted = noted;
      meets = meets;
      free = free;
    })) f) e) d) c) b)

module _ (network : Network) (rule : Rule) (v : Verdict) (whole : IsJudgedWhole network rule v) where
  -- the network passes
  pub passes : Passes network rule
  passes = record {
    tables = whole.tables;
    are = whole.are;
    few = whole.few;
    apart = whole.apart.apart;
    busy = whole.busy;
    notes = whole.notes;
    noted = whole.noted;
    meets = whole.meets;
  }

  -- no component ends or lacks a value
  pub goes_on : AllGoOn network.program (leaves network.tree)
  goes_on = all_go_on network.program (leaves network.tree) whole.tables whole.are

  -- the nodes are the classes of traces
  pub classes : HaveClasses (ProcessStep network.program) (leaves network.tree) (node_count whole.shape.parts)
  classes = shape_has_classes (ProcessStep network.program) network.tree whole.shape whole.apart.is

  -- the rank is the rule's
  pub has_greatest_rank : HasGreatestRank network rule (pos whole.free.rank)
  has_greatest_rank = record { notes = whole.notes; are = whole.noted; number = whole.free.rank; greatest = whole.free.greatest; is = refl }

-- a network whose verdict has the status 0 passes
pub zero_passes : (network : Network) (rule : Rule) (v : Verdict) → IsJudged network rule v → verdict_status v ≡ 0 → Passes network rule
zero_passes network rule v judged zero =
    judged_whole network rule (λ w. verdict_status w ≡ 0 → Passes network rule) (λ r no. absurd (let z : ⊥ = omega (arith, no) in z)) (λ s no. absurd (let z : ⊥ = omega (arith, no) in z))
    (λ w whole no. passes network rule w whole) v judged zero

pub exact : JudgementIsExact
exact network rule v judged = (zero_passes network rule v judged, λ passes. complete network rule v passes judged)
