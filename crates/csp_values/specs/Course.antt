-- What a walk over the bindings of generators still comes to, step by step.
use Rattle.std.specs.Prelude.{◌≡◌, ℕ, ◌+◌, Bool, true, false, if◌then◌else◌, Option, Some, None, Result, Ok, Err, List, [], ◌∷◌, ◌++◌, map, drop, length, slice_get}
use Rattle.csp_program.specs.Prelude.{Outcome, and_then, Env, Turn, from, when, as_set, as_truth, turn, uses_within}
use Rattle.csp_program.specs.declared.expressions.Gen.{Gen}
use Rattle.csp_program.specs.declared.kinds.ValueKind.{ValueKind}
use Rattle.csp_program.specs.declared.programs.Content.{Content}
use Rattle.csp_atoms.specs.declared.atom.Atom.{Atom}
use Rattle.csp_atoms.specs.declared.value.Value.TheVariants.{One}
use Rattle.value_operators.specs.Prelude.{env_in, parameters, EvalFault}
use Rattle.value_operators.specs.declared.names.Names.{Names}
use Rattle.value_operators.specs.Env.{with_bound}
use Rattle.csp_base.specs.Stops.{Tells}
use Rattle.csp_values.specs.declared.walk.Frame.{Frame}
use Rattle.csp_values.specs.declared.walk.Step.{Step}
use Rattle.csp_values.specs.declared.walk.Step.TheVariants.{On, Binding, End}
use Rattle.csp_values.specs.declared.walk.Walk.{Walk}

-- the end, a fault, a binding with what comes after it, or a step that finds neither
pub data Course : Type 0 where
  no_more : Course
  faulty : ValueKind → Course
  one : Env → Course → Course
  step : Course → Course

-- without the steps before the first of the others
abbrev pub skipped : Course → Course
skipped no_more = no_more
skipped (faulty k) = faulty k
skipped (one env rest) = one env rest
skipped (step rest) = skipped rest

abbrev pub unless_faulty : {A : Type 0} → Outcome A → (A → Course) → Course
unless_faulty (Ok a) next = next a
unless_faulty (Err k) next = faulty k

-- one value after another of a name, and then the rest
abbrev pub each_taken : (Env → Course → Course) → ℕ → Env → List Atom → Course → Course
each_taken inner x env [] rest = step rest
each_taken inner x env (a ∷ atoms) rest = step (inner ((x, One a) ∷ env) (each_taken inner x env atoms rest))

-- the bindings of generators, and then the rest
abbrev pub bindings : List Turn → Env → Course → Course
bindings [] env rest = one env rest
bindings (from x s ∷ turns) env rest = unless_faulty (and_then (s env) (λ v. as_set v)) (λ atoms. each_taken (bindings turns) x env atoms rest)
bindings (when c ∷ turns) env rest = unless_faulty (and_then (c env) (λ v. as_truth v)) (λ b. if b then step (bindings turns env rest) else step rest)

module _ (p : Content) (n : ℕ) (gens : List Gen) where
  -- the generators from a place on
  abbrev pub turns_from : ℕ → List Turn
  turns_from place = map (turn (uses_within p n) p.channels) (drop place gens)

  -- the values that are left to the names of frames, the innermost first, and then the rest
  unfoldable pub after : List Frame → Env → Course → Course
  after [] env rest = rest
  after (f ∷ frames) env rest = after frames ((f.name.0, One f.name.1) ∷ env) (each_taken (bindings (turns_from f.rest)) f.name.0 env (drop f.next f.atoms) rest)

  abbrev pub at_turn : Option ℕ → Env → Course → Course
  at_turn None env rest = rest
  at_turn (Some place) env rest = bindings (turns_from place) env rest

  -- what a walk comes to, over parameters and names that are bound around it
  unfoldable pub course_over : Env → Env → Walk → Course
  course_over params around walk = at_turn walk.turn (with_bound walk.bound params) (after walk.frames around no_more)

  abbrev pub course : Names → Walk → Course
  course names walk = course_over (parameters names) (env_in names) walk

-- what a walk of a program's generators comes to
abbrev pub course_under : Content → List Gen → Walk → Course
course_under p gens walk = course_over p (length p.defs) gens [] [] walk

abbrev pub name_of : Frame → ℕ × Atom
name_of f = f.name

-- a walk binds the names of its frames, after those that are bound around it
abbrev pub IsUnder : List (ℕ × Atom) → Walk → Type 0
IsUnder around walk = walk.bound ≡ around ++ map name_of walk.frames

-- a walk that begins
abbrev pub begun : List (ℕ × Atom) → Walk
begun around = record { bound = around; frames = []; turn = Some 0 }

-- the walk once a name has taken the value, where there is one
abbrev pub taken_as : Walk → ℕ → List Atom → ℕ → ℕ → Option Atom → Walk
taken_as walk slot atoms place rest None = record { bound = walk.bound; frames = walk.frames; turn = None }
taken_as walk slot atoms place rest (Some a) = record {
  bound = walk.bound ++ (slot, a) ∷ [];
  frames = walk.frames ++ record { name = (slot, a); atoms = atoms; next = place + 1; rest = rest } ∷ [];
  turn = Some rest;
}

abbrev pub taken : Walk → ℕ → List Atom → ℕ → ℕ → Walk
taken walk slot atoms place rest = taken_as walk slot atoms place rest (slice_get atoms place)

-- the last frame is away, and its name
abbrev pub IsPopped : Walk → Walk → Option Frame → Type 0
IsPopped old new None = old.frames ≡ []
IsPopped old new (Some f) = (old.frames ≡ new.frames ++ f ∷ []) × ((around : List (ℕ × Atom)) → IsUnder around old → IsUnder around new)

-- what a step of a walk answers, from the course before it and after it
abbrev pub GivesStep : Result Step EvalFault → Course → Course → Env → List (ℕ × Atom) → Walk → Type 0
GivesStep (Ok On) before left params around walk = (before ≡ step left) × IsUnder around walk
GivesStep (Ok Binding) before left params around walk = (before ≡ one (with_bound walk.bound params) left) × IsUnder around walk
GivesStep (Ok End) before left params around walk = before ≡ no_more
GivesStep (Err fault) before left params around walk = Tells (λ kind. before ≡ faulty kind) fault

-- what a walk to the next binding answers: whether there is one
abbrev pub GivesBinding : Result Bool EvalFault → Course → Course → Env → List (ℕ × Atom) → Walk → Type 0
GivesBinding (Ok true) before left params around walk = (skipped before ≡ one (with_bound walk.bound params) left) × IsUnder around walk
GivesBinding (Ok false) before left params around walk = skipped before ≡ no_more
GivesBinding (Err fault) before left params around walk = Tells (λ kind. skipped before ≡ faulty kind) fault
