-- What each command promises of the texts of its request and of its report.
use Rattle.std.specs.Prelude.{◌≡◌, ℕ, Some, false, true, List, [], ◌∷◌, length, slice_get}
use Rattle.command_words.specs.declared.request.Job.{Job}
use Rattle.command_words.specs.declared.request.Job.TheVariants.{Check, Livelock, Run, Table}
use Rattle.command_words.specs.declared.request.Request.{Request}
use Rattle.command_words.specs.declared.request.Request.TheVariants as request
use Rattle.comparison.specs.Complete.{Matches}
use Rattle.csp_program.specs.declared.processes.Proc.{Proc}
use Rattle.csp_tables.specs.Prelude.{Component, leaves, Part, IsPartOf}
use Rattle.csp_tables.specs.declared.rule.Rule.{Rule}
use Rattle.csp_text.specs.declared.script.Script.{Script}
use Rattle.judgement_laws.specs.Complete.{Passes}
use Rattle.judgement_laws.specs.Lasting.{AllGoOn}
use Rattle.judgement_laws.specs.Ranked.{HasGreatestRank}
use Rattle.livelock.specs.Named.{IsSetNamed}
use Rattle.livelock.specs.Whole.{BoundsHidden}
use Rattle.network_stages.specs.Networks.{HasSilentBound, IsLive, Network}
use Rattle.process_steps.specs.ComponentStep.{ProcessStep}
use Rattle.report.specs.Report.{conforms_text, livelock_free_text, table_text}
use Rattle.script_printer.specs.PrintedScript.{script_text}
use Rattle.dl_top.specs.Judgement.{SpellsOnlyNetwork, SpellsOnlyScript}
use Rattle.dl_top.specs.Proved.{SpellsDeadlockFree}
use Rattle.dl_top.specs.Ran.{SpellsRun}
use Rattle.dl_top.specs.Reply.{rule_of, trial_text}

-- The text spells a network free of deadlock, as the report says. The network meets the rule, and the greatest rank in the report is its own by the rule.
pub record TellsRank (text : List ℕ) (rule : Rule) (report : List ℕ) : Type 0 where
  pub free : SpellsDeadlockFree text rule report
  pub passes : Passes free.network rule
  pub greatest : HasGreatestRank free.network rule free.greatest_rank

-- The text spells exactly one script. The report is the printed text of the script, and spells the same script and no other.
pub record SpellsShown (text report : List ℕ) : Type 0 where
  pub script : Script
  pub spells : SpellsOnlyScript text script
  pub is : report ≡ script_text script
  pub again : SpellsOnlyScript report script

-- The text spells exactly one network, of which this is the component in the place i. The report prints exactly the component's normal table.
pub record SpellsTable (text : List ℕ) (i : ℕ) (report : List ℕ) : Type 0 where
  pub network : Network
  pub spells : SpellsOnlyNetwork text network
  pub component : Component Proc
  pub there : slice_get (leaves network.tree) i ≡ Some component
  pub part : Part
  pub normal : IsPartOf (ProcessStep network.program) component part
  pub is : report ≡ table_text network.program i (length (leaves network.tree)) part.table

-- The text spells exactly one network, of which no component can end or lacks a value that its steps need; and the name stands for a set of events in it.
-- From every state that some run of the network reaches, at most `bound` steps follow one another that are silent or by one of these events. The report
-- prints the number of components and the bound.
pub record SpellsBounded (text name report : List ℕ) : Type 0 where
  pub network : Network
  pub spells : SpellsOnlyNetwork text network
  pub lasting : AllGoOn network.program (leaves network.tree)
  pub events : List ℕ
  pub set : IsSetNamed network.program name events
  pub bound : ℕ
  pub bounds : BoundsHidden network events bound
  pub is : report ≡ livelock_free_text (length (leaves network.tree)) bound

-- Each of the two texts spells exactly one network, and the first network matches the second: both have the same events and alphabets, and each component of
-- the first conforms to the one in its place in the second. No component of either can end or lacks a value. If the second network is live with some number,
-- the first is live with the bound that the report prints, which is exactly its silent bound. (Where the second text was checked with status 0, it is live.)
pub record SpellsConforming (text specification report : List ℕ) : Type 0 where
  pub network : Network
  pub spells : SpellsOnlyNetwork text network
  pub specified : Network
  pub specifies : SpellsOnlyNetwork specification specified
  pub matches : Matches network specified
  pub lasting : AllGoOn network.program (leaves network.tree)
  pub specified_lasting : AllGoOn specified.program (leaves specified.tree)
  pub bound : ℕ
  pub exact : HasSilentBound network bound
  pub inherits : (some : ℕ) → IsLive specified some → IsLive network bound
  pub is : report ≡ conforms_text (length (leaves network.tree)) bound

-- what status 0 promises of the text of a script with whose network this is to be done, and of the report
abbrev pub JobPromised : Job → List ℕ → List ℕ → Type 0
JobPromised (Check rule) text report = TellsRank text rule report
JobPromised (Table i) text report = SpellsTable text i report
JobPromised (Run seed steps) text report = SpellsRun text seed steps false report
JobPromised (Livelock set) text report = SpellsBounded text set report

-- what it promises of a request, with the texts that were handed over for it and the report
abbrev pub Promised : Request → List (List ℕ) → List ℕ → Type 0
Promised (request.Show name) (text ∷ []) report = SpellsShown text report
Promised (request.Script job name) (text ∷ []) report = JobPromised job text report
Promised (request.Trial trial) [] report = JobPromised (Check (rule_of trial.family)) (trial_text trial) report
Promised (request.Conform script specification) (text ∷ other ∷ []) report = SpellsConforming text other report
Promised _ _ report = ⊥

-- and what status 1 promises of a run: that it is stuck
abbrev pub IsStuckRun : Request → List (List ℕ) → List ℕ → Type 0
IsStuckRun (request.Script (Run seed steps) name) (text ∷ []) report = SpellsRun text seed steps true report
IsStuckRun _ _ report = ⊥
