-- What the words of a command line ask for.
use Rattle.std.specs.Prelude.{◌≡◌, ◌<◌, ◌≤◌, ℕ, Option, None, Some, List, [], ◌∷◌, codes}
use Rattle.std.specs.Fmt.{decimal}
use Rattle.csp_tables.specs.declared.rule.Rule.{Rule}
use Rattle.net_maker.specs.Families.{family_name, greatest, least}
use Rattle.report.specs.Report.{rule_text}
use Rattle.command_words.specs.declared.request.Job.TheVariants.{Check, Livelock, Run, Table}
use Rattle.command_words.specs.declared.request.Request.{Request}
use Rattle.command_words.specs.declared.request.Request.TheVariants as request
use Rattle.command_words.specs.declared.request.Trial.{Trial}

-- how a request is written: `show SCRIPT`, `check RULE SCRIPT`, `table SCRIPT INDEX`, `trial FAMILY N`, `run SCRIPT SEED STEPS`, `livelock SCRIPT SET` or
-- `conform SCRIPT SPEC`
abbrev pub written : Request → List (List ℕ)
written (request.Show name) = codes "show" ∷ name ∷ []
written (request.Script (Check rule) name) = codes "check" ∷ rule_text rule ∷ name ∷ []
written (request.Script (Table i) name) = codes "table" ∷ name ∷ decimal i ∷ []
written (request.Script (Run seed steps) name) = codes "run" ∷ name ∷ decimal seed ∷ decimal steps ∷ []
written (request.Script (Livelock set) name) = codes "livelock" ∷ name ∷ set ∷ []
written (request.Trial trial) = codes "trial" ∷ family_name trial.family ∷ decimal trial.size ∷ []
written (request.Conform script specification) = codes "conform" ∷ script ∷ specification ∷ []

-- an index, a seed and a number of steps have one to six digits, and a size is one that the family has
abbrev pub IsWithin : Request → Type 0
IsWithin (request.Show name) = Unit {0}
IsWithin (request.Script (Check rule) name) = Unit {0}
IsWithin (request.Script (Table i) name) = i < 1000000
IsWithin (request.Script (Run seed steps) name) = (seed < 1000000) × (steps < 1000000)
IsWithin (request.Script (Livelock set) name) = Unit {0}
IsWithin (request.Trial trial) = (least trial.family ≤ trial.size) × (trial.size ≤ greatest trial.family)
IsWithin (request.Conform script specification) = Unit {0}

pub record Asks (words : List (List ℕ)) (request : Request) : Type 0 where
  pub within : IsWithin request
  pub are : words ≡ written request

-- the names of the scripts that a request is for
abbrev pub names : Request → List (List ℕ)
names (request.Show name) = name ∷ []
names (request.Script job name) = name ∷ []
names (request.Trial trial) = []
names (request.Conform script specification) = script ∷ specification ∷ []

-- the trial for which a request asks, if it does
abbrev pub trial_of : Request → Option Trial
trial_of (request.Show name) = None
trial_of (request.Script job name) = None
trial_of (request.Trial trial) = Some trial
trial_of (request.Conform script specification) = None

-- The words are no command.
abbrev pub IsNoRequest : List (List ℕ) → Type 0
IsNoRequest words = (request : Request) → Asks words request → ⊥

-- The words name no script.
abbrev pub NamesNoScript : List (List ℕ) → Type 0
NamesNoScript words = (request : Request) → Asks words request → names request ≡ []

-- The words ask for the judgement of a script.
abbrev pub AsksForCheck : List (List ℕ) → Type 0
AsksForCheck words = (rule : Rule) × (script : List ℕ) × Asks words (request.Script (Check rule) script)

-- The words ask for a run of a script's network.
abbrev pub AsksForRun : List (List ℕ) → Type 0
AsksForRun words = (seed steps : ℕ) × (script : List ℕ) × Asks words (request.Script (Run seed steps) script)

-- The words ask for a trial.
abbrev pub AsksForTrial : List (List ℕ) → Type 0
AsksForTrial words = (trial : Trial) × Asks words (request.Trial trial)

-- Words ask for one request at most.
abbrev pub WordsAskOnce : Type 0
WordsAskOnce = (words : List (List ℕ)) (request other : Request) → Asks words request → Asks words other → request ≡ other
