-- What status 0 promises of a network that is judged.
use Rattle.std.specs.Prelude.{◌≡◌, ℕ, ℤ, List, [], ◌∷◌, length}
use Rattle.command_words.specs.declared.request.Job.TheVariants.{Check}
use Rattle.command_words.specs.declared.request.Request.{Request}
use Rattle.command_words.specs.declared.request.Request.TheVariants as request
use Rattle.csp_tables.specs.Prelude.{leaves}
use Rattle.csp_tables.specs.declared.rule.Rule.{Rule}
use Rattle.judgement_laws.specs.Classes.{HaveClasses}
use Rattle.judgement_laws.specs.Lasting.{AllGoOn}
use Rattle.network_stages.specs.Networks.{HasSilentBound, IsLive, Network}
use Rattle.process_steps.specs.ComponentStep.{ProcessStep}
use Rattle.report.specs.Report.{deadlock_free_text}
use Rattle.dl_top.specs.Judgement.{SpellsOnlyNetwork}
use Rattle.dl_top.specs.Reply.{rule_of, trial_text}

-- The text spells exactly one network. From every state that some run of the network reaches, at most `bound` silent steps follow one another, and
-- a state without a silent step has an event; and `bound` is exactly its silent bound. No term that a component reaches can end or lacks a value that its
-- steps need. `nodes` counts the components' classes of traces with the same future. The report prints these numbers, and a greatest rank.
pub record SpellsDeadlockFree (text : List ℕ) (rule : Rule) (report : List ℕ) : Type 0 where
  pub network : Network
  pub spells : SpellsOnlyNetwork text network
  pub bound : ℕ
  pub live : IsLive network bound
  pub exact : HasSilentBound network bound
  pub lasting : AllGoOn network.program (leaves network.tree)
  pub nodes : ℕ
  pub classes : HaveClasses (ProcessStep network.program) (leaves network.tree) nodes
  pub greatest_rank : ℤ
  pub is : report ≡ deadlock_free_text rule (length (leaves network.tree)) nodes bound greatest_rank

-- The request is to judge a script, whose text is such; or a trial, and the text of its family is.
abbrev pub IsFree : Request → List (List ℕ) → List ℕ → Type 0
IsFree (request.Script (Check rule) name) (text ∷ []) report = SpellsDeadlockFree text rule report
IsFree (request.Trial trial) [] report = SpellsDeadlockFree (trial_text trial) (rule_of trial.family) report
IsFree _ _ report = ⊥
