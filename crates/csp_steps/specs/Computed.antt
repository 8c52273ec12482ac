-- What the functions of this crate answer on their way, for their own contracts alone.
use Rattle.std.specs.Prelude.{◌≡◌, ◌<◌, ℕ, Bool, true, ◌&&◌, nat_lt, Result, Ok, Err, List, [], ◌∷◌, ◌++◌, map, length}
use Rattle.process_steps.specs.StepList.{Move, steps_of, steps_of_choice}
use Rattle.term_pool.specs.Trees.{all_below, tree_at}
use Rattle.csp_program.specs.Prelude.{proc_depth, Outcome, and_then}
use Rattle.csp_program.specs.declared.processes.Proc.{Proc}
use Rattle.csp_program.specs.declared.programs.Content.{Content}
use Rattle.csp_steps.specs.declared.look.Look.{Look}
use Rattle.csp_steps.specs.declared.look.Look.TheVariants as look
use Rattle.csp_steps.specs.Effect.{around}
use Rattle.csp_steps.specs.Listed.{seen}
use Rattle.csp_steps.specs.declared.step.StepTo.{StepTo}
use Rattle.pool_parts.specs.declared.place.ProcId.{ProcId}
use Rattle.value_operators.specs.Gives.{EvalFault, IsFault}
use Rattle.csp_base.specs.Lists.{greatest}
use Rattle.csp_steps.specs.Order.{AreFirsts, AreFirstsAfter}

-- what a call answers that comes to an outcome: this holds of a success
abbrev pub Answers : {A B : Type 0} → (A → Type 0) → Result A EvalFault → Outcome B → Type 0
Answers Holds (Ok a) outcome = Holds a
Answers Holds (Err f) outcome = IsFault f outcome

-- whether each of the steps leads to one of the first so many places
abbrev pub all_within : ℕ → List StepTo → Bool
all_within count [] = true
all_within count (s ∷ steps) = nat_lt s.to.0 count && all_within count steps

-- the steps are these moves, and lead to places of the list
pub record AreMoves (trees : List Proc) (steps : List StepTo) (moves : List Move) : Type 0 where
  pub same : map (seen trees) steps ≡ moves
  pub within : all_within (length trees) steps ≡ true

-- the outcome is these steps, which lead to places of the list
pub record IsListing (trees : List Proc) (steps : List StepTo) (outcome : Outcome (List Move)) : Type 0 where
  pub same : outcome ≡ Ok (map (seen trees) steps)
  pub within : all_within (length trees) steps ≡ true

-- what a call that lists steps answers
abbrev pub GivesMoves : List Proc → Result (List StepTo) EvalFault → Outcome (List Move) → Type 0
GivesMoves trees result outcome = Answers (λ steps. IsListing trees steps outcome) result outcome

-- These are exactly the moves of the outcome, each where it first stands, at places of the list.
pub record AreEach (trees : List Proc) (steps : List StepTo) (outcome : Outcome (List Move)) : Type 0 where
  pub moves : List Move
  pub has : outcome ≡ Ok moves
  pub within : all_within (length trees) steps ≡ true
  pub firsts : AreFirsts moves (map (seen trees) steps)

abbrev pub GivesEach : List Proc → Result (List StepTo) EvalFault → Outcome (List Move) → Type 0
GivesEach trees result outcome = Answers (λ steps. AreEach trees steps outcome) result outcome

-- Each of the steps that isn't among the old ones comes to their end, where it first stands.
pub record AreAdded (old steps new : List StepTo) : Type 0 where
  pub more : List StepTo
  pub grown : new ≡ old ++ more
  pub firsts : AreFirstsAfter steps old more

-- the outcome is the process at the place
pub record IsPlaceOf (trees : List Proc) (id : ProcId) (outcome : Outcome Proc) : Type 0 where
  pub same : outcome ≡ Ok (tree_at trees id)
  pub within : id.0 < length trees

-- what a call that puts a process answers
abbrev pub GivesPlace : List Proc → Result ProcId EvalFault → Outcome Proc → Type 0
GivesPlace trees result outcome = Answers (λ id. IsPlaceOf trees id outcome) result outcome

-- the processes stand at these places
pub record AreAt (trees : List Proc) (ids : List ProcId) (processes : List Proc) : Type 0 where
  pub same : map (tree_at trees) ids ≡ processes
  pub within : all_below (length trees) ids ≡ true

-- the step is this move, and leads to a place of the list
pub record IsMove (trees : List Proc) (step : StepTo) (move : Move) : Type 0 where
  pub same : seen trees step ≡ move
  pub within : step.to.0 < length trees

-- the steps of the process t are those of the process at the place, which is less deep
pub record AreThoseAt (p : Content) (trees : List Proc) (id : ProcId) (t : Proc) : Type 0 where
  pub same : steps_of p t ≡ steps_of p (tree_at trees id)
  pub within : id.0 < length trees
  pub less : proc_depth (tree_at trees id) < proc_depth t

-- they are those of the choice between the processes at the places
pub record AreOfChoice (p : Content) (trees : List Proc) (ids : List ProcId) (t : Proc) : Type 0 where
  pub same : steps_of p t ≡ steps_of_choice p (steps_of p) (map (tree_at trees) ids)
  pub within : all_below (length trees) ids ≡ true
  pub less : greatest (map proc_depth (map (tree_at trees) ids)) < proc_depth t

-- they are made of those of the process at the place
pub record AreAround (p : Content) (trees : List Proc) (id : ProcId) (t : Proc) : Type 0 where
  pub same : steps_of p t ≡ and_then (steps_of p (tree_at trees id)) (around p t)
  pub within : id.0 < length trees
  pub less : proc_depth (tree_at trees id) < proc_depth t

-- what a look at a process has found of its steps
abbrev pub IsLook : Content → List Proc → Look → Proc → Type 0
IsLook p trees (look.Steps steps) t = IsListing trees steps (steps_of p t)
IsLook p trees (look.Same id) t = AreThoseAt p trees id t
IsLook p trees (look.Choice ids) t = AreOfChoice p trees ids t
IsLook p trees (look.Around id) t = AreAround p trees id t

abbrev pub GivesLook : Content → List Proc → Result Look EvalFault → Proc → Type 0
GivesLook p trees result t = Answers (λ found. IsLook p trees found t) result (steps_of p t)
