-- When a request is bound to end with status 0, or a run with 0 or 1, unless a device fails or memory runs out.
use Rattle.std.specs.Prelude.{◌≡◌, ◌≤◌, ℕ, List, [], ◌∷◌, Some, length, slice_get}
use Rattle.dl_limits.specs.declared.TheConstants.{MOST_BYTES}
use Rattle.command_words.specs.Prelude.{Asks, names}
use Rattle.command_words.specs.declared.request.Job.{Job}
use Rattle.command_words.specs.declared.request.Job.TheVariants.{Check, Livelock, Run, Table}
use Rattle.command_words.specs.declared.request.Request.{Request}
use Rattle.comparison.specs.Complete.{Matches}
use Rattle.command_words.specs.declared.request.Request.TheVariants as request
use Rattle.csp_parser.specs.Spells.{Spells}
use Rattle.csp_program.specs.declared.processes.Proc.{Proc}
use Rattle.csp_tables.specs.Prelude.{Component, leaves}
use Rattle.csp_tables.specs.declared.rule.Rule.{Rule}
use Rattle.csp_text.specs.declared.script.Script.{Script}
use Rattle.dl_outside.specs.Prelude.{text_of}
use Rattle.dl_outside.specs.declared.texts.NamedText.{NamedText}
use Rattle.judgement_laws.specs.Complete.{Passes}
use Rattle.livelock.specs.Complete.{IsWithinBound}
use Rattle.network_stages.specs.Prelude.{Network, HaveFewSets, HasTables, AreTablesOf}
use Rattle.network_stages.specs.declared.component_tables.ComponentTable.{ComponentTable}
use Rattle.dl_top.specs.Judgement.{SpellsNetwork}
use Rattle.dl_top.specs.Reply.{rule_of, trial_text}

-- the text spells a network that passes a check by the rule
pub record SpellsPassing (text : List ℕ) (rule : Rule) : Type 0 where
  pub network : Network
  pub spelled : SpellsNetwork text network
  pub passes : Passes network rule

-- both texts spell networks of which the first matches the second
pub record SpellMatching (text specification : List ℕ) : Type 0 where
  pub network : Network
  pub spelled : SpellsNetwork text network
  pub specified : Network
  pub specified_spelled : SpellsNetwork specification specified
  pub matches : Matches network specified

-- The text spells a network of which this is the component in the place i. The component has a table by itself, and its traces lead to few sets of terms.
pub record SpellsTabled (text : List ℕ) (i : ℕ) : Type 0 where
  pub network : Network
  pub spelled : SpellsNetwork text network
  pub component : Component Proc
  pub there : slice_get (leaves network.tree) i ≡ Some component
  pub tables : List ComponentTable
  pub are : AreTablesOf network.program (component ∷ []) tables
  pub few : HaveFewSets network.program (component ∷ [])

-- the text spells a network of which the events of the set of this name have a bound, where they are hidden
pub record SpellsWithinBound (text name : List ℕ) : Type 0 where
  pub network : Network
  pub spelled : SpellsNetwork text network
  pub bound : ℕ
  pub within : IsWithinBound network name bound

-- the text spells a network whose components have tables
pub record SpellsTables (text : List ℕ) : Type 0 where
  pub network : Network
  pub spelled : SpellsNetwork text network
  pub tables : List ComponentTable
  pub are : HasTables network tables

-- the text of a script then, with whose network this is to be done (of a run below)
abbrev pub TextPasses : Job → List ℕ → Type 0
TextPasses (Check rule) text = SpellsPassing text rule
TextPasses (Table i) text = SpellsTabled text i
TextPasses (Run seed steps) text = ⊥
TextPasses (Livelock set) text = SpellsWithinBound text set

-- the texts of a request then
abbrev pub Passing : Request → List (List ℕ) → Type 0
Passing (request.Show name) (text ∷ []) = (script : Script) × Spells text script
Passing (request.Script job name) (text ∷ []) = TextPasses job text
Passing (request.Trial trial) [] = TextPasses (Check (rule_of trial.family)) (trial_text trial)
Passing (request.Conform script specification) (text ∷ other ∷ []) = SpellMatching text other
Passing _ _ = ⊥

-- the text of a script whose network runs: that ends with 0 or 1
abbrev pub Running : Request → List (List ℕ) → Type 0
Running (request.Script (Run seed steps) name) (text ∷ []) = SpellsTables text
Running _ _ = ⊥

-- the shelf's texts hold these under the names, within the limit of a script
abbrev pub HoldWithin : List NamedText → List (List ℕ) → List (List ℕ) → Type 0
HoldWithin texts [] [] = Unit {0}
HoldWithin texts (name ∷ names) (text ∷ others) = (text_of texts name ≡ Some text) × (length text ≤ MOST_BYTES) × HoldWithin texts names others
HoldWithin texts _ _ = ⊥

-- The words ask for such a request, and the shelf holds its texts.
pub record AsksForSuch (Such : Request → List (List ℕ) → Type 0) (texts : List NamedText) (words : List (List ℕ)) : Type 0 where
  pub request : Request
  pub asked : Asks words request
  pub given : List (List ℕ)
  pub held : HoldWithin texts (names request) given
  pub such : Such request given
