-- The answer for which texts call: why one of them spells no network, or what is decided of the networks that they spell.
use Rattle.std.specs.Prelude.{◌≡◌, ◌⊎◌, ℕ, List}
use Rattle.csp_base.specs.declared.place.Place.{Place}
use Rattle.csp_text.specs.declared.script.Script.{Script}
use Rattle.csp_parser.specs.Places.{IsPlaceOf}
use Rattle.csp_parser.specs.Spells.{Spells}
use Rattle.script_printer.specs.PrintedScript.{script_text}
use Rattle.comparison.specs.Compared.{IsCompared}
use Rattle.judgement.specs.Judged.{IsJudged}
use Rattle.livelock.specs.Bounded.{IsBounded}
use Rattle.network_walks.specs.Walked.{IsWalked}
use Rattle.tabulation.specs.Tabulated.{IsTabulated}
use Rattle.network_stages.specs.Prelude.{IsNetworkOf, Network, HasNoNetwork}
use Rattle.command_words.specs.declared.request.Job.{Job}
use Rattle.command_words.specs.declared.request.Job.TheVariants.{Check, Livelock, Run, Table}
use Rattle.report.specs.declared.answer.Answer.{Answer}
use Rattle.report.specs.declared.answer.Answer.TheVariants.{Decided, NoProgram, Shown}
use Rattle.report.specs.declared.answer.Side.{Side}
use Rattle.report.specs.declared.answer.TextFault.TheVariants.{NoScript}
use Rattle.report.specs.declared.answer.Verdict.{Verdict}
use Rattle.report.specs.declared.answer.Side.TheVariants as side

-- The text spells this script and no other.
pub record SpellsOnlyScript (text : List ℕ) (script : Script) : Type 0 where
  pub spelled : Spells text script
  pub only : (other : Script) → Spells text other → other ≡ script

-- The text spells the network: the network of a script that it spells.
pub record SpellsNetwork (text : List ℕ) (network : Network) : Type 0 where
  pub script : Script
  pub spelled : Spells text script
  pub is : IsNetworkOf script network

-- The text spells this network and no other.
pub record SpellsOnlyNetwork (text : List ℕ) (network : Network) : Type 0 where
  pub spelled : SpellsNetwork text network
  pub only : (other : Network) → SpellsNetwork text other → other ≡ network

-- The text of this side spells no script; told is the place of its first piece that is no token, or that of a token or its end.
pub record SpellsNoScript (side : Side) (text : List ℕ) (answer : Answer) : Type 0 where
  pub none : (script : Script) → Spells text script → ⊥
  pub at : Place
  pub place : IsPlaceOf text at
  pub told : answer ≡ NoProgram side (NoScript at)

-- The text of this side spells no script, or exactly one, which has no network; that is told.
abbrev pub SpellsNoNetwork : Side → List ℕ → Answer → Type 0
SpellsNoNetwork side text answer = SpellsNoScript side text answer ⊎ ((script : Script) × SpellsOnlyScript text script × HasNoNetwork side script answer)

-- The text of this side spells no network, which is told; or exactly one, with which the answer comes.
abbrev pub NetworkOr : Side → List ℕ → (Network → Answer → Type 0) → Answer → Type 0
NetworkOr side text Then answer = SpellsNoNetwork side text answer ⊎ ((network : Network) × SpellsOnlyNetwork text network × Then network answer)

-- there is such a verdict on the network, and it is told with the program of that
abbrev pub IsDecided : Network → (Verdict → Type 0) → Answer → Type 0
IsDecided network Decides answer = (verdict : Verdict) × Decides verdict × (answer ≡ Decided network.program verdict)

-- what a network decides with which this is to be done
abbrev pub NetworkDecides : Job → Network → Verdict → Type 0
NetworkDecides (Check rule) network = IsJudged network rule
NetworkDecides (Table i) network = IsTabulated network i
NetworkDecides (Run seed steps) network = IsWalked network seed steps
NetworkDecides (Livelock set) network = IsBounded network set

-- the text of a script with which this is to be done
abbrev pub TextCallsFor : List ℕ → Job → Answer → Type 0
TextCallsFor text job answer = NetworkOr side.Script text (λ network. IsDecided network (NetworkDecides job network)) answer

-- the text of a script that is to be shown
abbrev pub TextIsShown : List ℕ → Answer → Type 0
TextIsShown text answer = SpellsNoScript side.Script text answer ⊎ ((script : Script) × SpellsOnlyScript text script × (answer ≡ Shown (script_text script)))

-- the text of a script, and then that of its specification
abbrev pub TextsCompare : List ℕ → List ℕ → Answer → Type 0
TextsCompare text specification answer =
    NetworkOr side.Script text (λ network.
    NetworkOr side.Specification specification (λ specified.
    IsDecided network (IsCompared network specified))) answer
