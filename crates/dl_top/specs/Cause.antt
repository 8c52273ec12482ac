-- Which reply comes when: what the words ask for, the loads of the texts that it is for, and then what these texts call for.
use Rattle.std.specs.Prelude.{◌≡◌, ◌⊎◌, ℕ, IfOk, List, [], ◌∷◌, Option, Some, Result, Ok, Err}
use Rattle.dl_limits.specs.declared.TheConstants.{MOST_BYTES}
use Rattle.dl_outside.specs.Prelude.{NeverFall, AnswersTold, LoadAnswers, text_of}
use Rattle.dl_outside.specs.declared.count.Counts.{Counts}
use Rattle.dl_outside.specs.declared.shelf.LoadFault.{LoadFault}
use Rattle.dl_outside.specs.declared.texts.NamedText.{NamedText}
use Rattle.dl_outside.specs.declared.shelf.LoadFault.TheVariants as load
use Rattle.command_words.specs.Prelude.{Asks, IsNoRequest, names, trial_of}
use Rattle.command_words.specs.declared.request.Job.TheVariants.{Check}
use Rattle.command_words.specs.declared.request.Request.{Request}
use Rattle.command_words.specs.declared.request.Request.TheVariants as request
use Rattle.report.specs.declared.answer.Answer.{Answer}
use Rattle.report.specs.declared.answer.Answer.TheVariants.{NoProgram, Outside, Usage}
use Rattle.report.specs.declared.answer.OutsideFault.TheVariants.{NotFound, NotRead}
use Rattle.report.specs.declared.answer.Side.{Side}
use Rattle.report.specs.declared.answer.TextFault.TheVariants.{TooLong}
use Rattle.report.specs.declared.answer.Side.TheVariants as side
use Rattle.dl_top.specs.Judgement.{TextCallsFor, TextIsShown, TextsCompare}
use Rattle.dl_top.specs.Reply.{plain, rule_of, trial_text}
use Rattle.dl_top.specs.declared.reply.Reply.{Reply}

-- What a shelf owes at a load: `texts`, `counts` and `gives` are what it tells.
pub record IsLoad {S : Type 0} (texts : S → Option (List NamedText)) (counts : S → Counts) (gives : S → S → List ℕ → List ℕ → Type 0) (old new : S) (name : List ℕ) (result : Result (List ℕ) LoadFault) : Type 0 where
  pub answers : LoadAnswers (texts old) (counts old) (counts new) name MOST_BYTES result
  pub given : IfOk result (gives old new name)
  pub texts_stay : texts new ≡ texts old
  pub never_fall : NeverFall (counts old) (counts new)

-- how it is told that the text of this side can't be loaded
abbrev pub TellsLoad : Side → LoadFault → Answer → Type 0
TellsLoad side load.Missing answer = answer ≡ Outside side NotFound
TellsLoad side load.TooLong answer = answer ≡ NoProgram side TooLong
TellsLoad side load.Failed answer = answer ≡ Outside side NotRead
TellsLoad side load.NoMemory answer = ⊥

-- what the texts of a request call for
abbrev pub TextsCallFor : Request → List (List ℕ) → Answer → Type 0
TextsCallFor (request.Show name) (text ∷ []) answer = TextIsShown text answer
TextsCallFor (request.Script job name) (text ∷ []) answer = TextCallsFor text job answer
TextsCallFor (request.Trial trial) [] answer = TextCallsFor (trial_text trial) (Check (rule_of trial.family)) answer
TextsCallFor (request.Conform script specification) (text ∷ other ∷ []) answer = TextsCompare text other answer
TextsCallFor _ _ answer = ⊥

module _ {S : Type 0} (Loads : S → S → List ℕ → Result (List ℕ) LoadFault → Type 0) where
  -- Texts are loaded by their names, one after another. The first is of this side, each other the specification. A text that can't be loaded is told; else
  -- the texts decide.
  abbrev pub Loaded : Side → S → S → List (List ℕ) → (List (List ℕ) → Answer → Type 0) → Answer → Type 0
  Loaded this old new [] Then answer = (new ≡ old) × Then [] answer
  Loaded this old new (name ∷ more) Then answer =
      ((fault : LoadFault) × Loads old new name (Err fault) × TellsLoad this fault answer)
      ⊎ ((text : List ℕ) × (between : S) × Loads old between name (Ok text) × Loaded side.Specification between new more (λ others. Then (text ∷ others)) answer)

  -- the reply to a request
  pub record Replies (old new : S) (request : Request) (reply : Reply) : Type 0 where
    pub trial : reply.trial ≡ trial_of request
    pub calls : Loaded side.Script old new (names request) (TextsCallFor request) reply.answer

  -- The causes of a reply to words: they are no command, or ask for something.
  abbrev pub MayGive : List (List ℕ) → S → S → Reply → Type 0
  MayGive words old new reply = (IsNoRequest words × (reply ≡ plain Usage)) ⊎ ((request : Request) × Asks words request × Replies old new request reply)

-- a load of these texts without a fault of their shelf
abbrev pub LoadsHeld : List NamedText → Unit {0} → Unit {0} → List ℕ → Result (List ℕ) LoadFault → Type 0
LoadsHeld texts old new name result = AnswersTold texts name MOST_BYTES ⊥ result

-- Where the shelf holds these texts and neither it nor the sink has a fault, this is the reply.
abbrev pub CallsFor : List NamedText → List (List ℕ) → Reply → Type 0
CallsFor texts words reply = MayGive (LoadsHeld texts) words tt tt reply

-- The texts hold those of all names, and every one that the words name.
abbrev pub HoldsAll : List NamedText → List (List ℕ) → Type 0
HoldsAll texts [] = Unit {0}
HoldsAll texts (name ∷ more) = ((text : List ℕ) × (text_of texts name ≡ Some text)) × HoldsAll texts more

abbrev pub HoldsAllNamed : List NamedText → List (List ℕ) → Type 0
HoldsAllNamed texts words = (request : Request) → Asks words request → HoldsAll texts (names request)
