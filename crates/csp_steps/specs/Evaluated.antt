-- What is kept of evaluations: the operators round processes, by their places in a pool, and the places of the bodies of definitions; steps; and sets.
use Rattle.std.specs.Prelude.{◌≡◌, ℕ, nat_eq, Option, Some, None, Result, Ok, List, map, slice_get}
use Rattle.std.specs.HashMap.{HashMap, get}
use Rattle.csp_atoms.specs.declared.atom.Atom.{Atom}
use Rattle.csp_program.specs.Prelude.{Outcome}
use Rattle.csp_program.specs.declared.expressions.Expr.{Expr}
use Rattle.csp_program.specs.declared.processes.Proc.{Proc}
use Rattle.csp_program.specs.declared.programs.Body.{Body}
use Rattle.csp_program.specs.declared.programs.Content.{Content}
use Rattle.csp_program.specs.declared.programs.Def.{Def}
use Rattle.csp_program.specs.declared.programs.Body.TheVariants as body
use Rattle.process_steps.specs.Prelude.{set_in, Renamed, steps_of}
use Rattle.step_values.specs.Images.{KeepsOutcome}
use Rattle.step_values.specs.declared.images.Images.{Images}
use Rattle.term_pool.specs.Trees.{tree_at}
use Rattle.value_operators.specs.Gives.{EvalFault}
use Rattle.csp_steps.specs.Computed.{Answers, AreEach}
use Rattle.csp_steps.specs.Effect.{effect_of, Does}
use Rattle.csp_steps.specs.declared.around.Round.{Round}
use Rattle.csp_steps.specs.declared.evaluated.Evaluated.{Evaluated}
use Rattle.csp_steps.specs.declared.operator.Operator.{Operator}
use Rattle.csp_steps.specs.declared.sets.Sets.{Sets}
use Rattle.csp_steps.specs.declared.step.StepTo.{StepTo}

-- at the place q stands a process of which this holds
pub record StandsAs (trees : List Proc) (q : ℕ) (Holds : Proc → Type 0) : Type 0 where
  pub process : Proc
  pub stands : slice_get trees q ≡ Some process
  pub holds : Holds process

-- the value with the number k is one of which this holds
pub record HasValue {T : Type 0} (values : List T) (k : ℕ) (Holds : T → Type 0) : Type 0 where
  pub value : T
  pub listed : slice_get values k ≡ Some value
  pub holds : Holds value

-- at each place that has a number stands a process of which this holds with the value that has this number
abbrev pub AreKept : {T S : Type 0} → (T → Proc → Type 0) → List Proc → List T → HashMap ℕ ℕ S → Type 0
AreKept Holds trees values numbers = (q k : ℕ) → get nat_eq numbers q ≡ Some k → HasValue values k (λ x. StandsAs trees q (Holds x))

-- the operators of processes
abbrev pub AreNoted : {S : Type 0} → Content → List Proc → List Operator → HashMap ℕ ℕ S → Type 0
AreNoted p trees operators places = AreKept (Does p trees) trees operators places

-- their steps, each where it first stands
abbrev pub AreStepped : {S : Type 0} → Content → List Proc → List (List StepTo) → HashMap ℕ ℕ S → Type 0
AreStepped p trees lists numbers = AreKept (λ steps t. AreEach trees steps (steps_of p t)) trees lists numbers

-- the body of a definition of a process
abbrev pub process_body : Body → Option Proc
process_body (body.Process q) = Some q
process_body other = None

abbrev pub body_of : Option Def → Option Proc
body_of None = None
body_of (Some def) = process_body def.body

-- at the place of each definition that has one stands its body
abbrev pub AreBodies : {S : Type 0} → Content → List Proc → HashMap ℕ ℕ S → Type 0
AreBodies p trees bodies = (d q : ℕ) → get nat_eq bodies d ≡ Some q → StandsAs trees q (λ t. body_of (slice_get p.defs d) ≡ Some t)

-- each expression is worth the set that is kept for it
abbrev pub AreSets : Content → Sets → Type 0
AreSets p sets = map (set_in p) sets.exprs ≡ map (λ (atoms : List Atom). Ok atoms) sets.atoms

-- What is kept is true of the program and of the processes of the pool.
pub record Fits (p : Content) (trees : List Proc) (kept : Evaluated) : Type 0 where
  pub operators : AreNoted p trees kept.operators kept.places
  pub bodies : AreBodies p trees kept.bodies
  pub stepped : AreStepped p trees kept.lists kept.stepped
  pub sets : AreSets p kept.sets

-- the operator of a round has this number, and is that of the process
pub record IsNumbered (p : Content) (trees : List Proc) (operators : List Operator) (round : Round) : Type 0 where
  pub listed : slice_get operators round.number ≡ Some round.operator.now
  pub does : Does p trees round.operator.now (tree_at trees round.id)

-- the operator with the number k is that of the process, and what is kept is true
pub record HasNumber (p : Content) (trees : List Proc) (kept : Evaluated) (k : ℕ) (t : Proc) : Type 0 where
  pub fits : Fits p trees kept
  pub has : HasValue kept.operators k (λ op. Does p trees op t)

-- the set with the number k is what the expression is worth, and those that are kept are true
pub record HasSet (p : Content) (sets : Sets) (k : ℕ) (e : Expr) : Type 0 where
  pub sound : AreSets p sets
  pub has : HasValue sets.atoms k (λ atoms. set_in p e ≡ Ok atoms)

-- what calls answer that evaluate a renaming and an operator, and that find the number of an operator and of a set
abbrev pub GivesImages : Result Images EvalFault → Outcome (List Renamed) → Type 0
GivesImages result outcome = Answers (λ kept. KeepsOutcome kept outcome) result outcome

abbrev pub GivesOperator : Content → List Proc → Result Operator EvalFault → Proc → Type 0
GivesOperator p trees result t = Answers (λ op. Does p trees op t) result (effect_of p t)

abbrev pub GivesNumber : Content → List Proc → Evaluated → Result ℕ EvalFault → Proc → Type 0
GivesNumber p trees kept result t = Answers (λ k. HasNumber p trees kept k t) result (effect_of p t)

abbrev pub GivesSet : Content → Sets → Result ℕ EvalFault → Expr → Type 0
GivesSet p sets result e = Answers (λ k. HasSet p sets k e) result (set_in p e)
