-- What a walk over the ways to fill the fields of a prefix still comes to, for the contracts of the functions that make it.
use Rattle.std.specs.Prelude.{◌≡◌, ◌<◌, ℕ, ◌+◌, ◌*◌, ◌-◌, ◌≤◌, ◌^◌, min, Bool, true, false, Option, Some, None, Result, Ok, Err, List, [], ◌∷◌, ◌++◌, map, drop, length, take}
use Rattle.csp_atoms.specs.declared.atom.Atom.{Atom}
use Rattle.csp_atoms.specs.declared.value.Value.{Value}
use Rattle.csp_atoms.specs.declared.value.Value.TheVariants.{One}
use Rattle.csp_program.specs.Prelude.{Outcome, and_then, given_by, proc_with, Env}
use Rattle.csp_program.specs.declared.kinds.ValueKind.TheVariants.{OutsideChannel}
use Rattle.csp_program.specs.declared.processes.Field.{Field}
use Rattle.csp_program.specs.declared.processes.Proc.{Proc}
use Rattle.csp_program.specs.declared.programs.Content.{Content}
use Rattle.csp_program.specs.declared.processes.Field.TheVariants as field
use Rattle.pool_parts.specs.declared.place.ProcId.{ProcId}
use Rattle.process_steps.specs.Prelude.{each_joined, given_under, value_under, Move, where_given}
use Rattle.process_steps.specs.declared.label.Label.TheVariants.{Visible}
use Rattle.term_pool.specs.Trees.{tree_at}
use Rattle.value_laws.specs.Numbers.{field_place}
use Rattle.value_operators.specs.Env.{with_bound}
use Rattle.value_operators.specs.Gives.{EvalFault}
use Rattle.csp_steps.specs.Computed.{all_within, Answers}
use Rattle.csp_steps.specs.Listed.{seen}
use Rattle.csp_steps.specs.declared.fields.Next.{Next}
use Rattle.csp_steps.specs.declared.fields.Next.TheVariants as next
use Rattle.csp_steps.specs.declared.step.StepTo.{StepTo}
use Rattle.csp_steps.specs.declared.walk.FieldValue.{FieldValue}
use Rattle.csp_steps.specs.declared.walk.Frame.{Frame}
use Rattle.csp_steps.specs.declared.walk.Input.{Input}
use Rattle.csp_steps.specs.declared.walk.Turn.{Turn}
use Rattle.csp_steps.specs.declared.walk.Turned.{Turned}
use Rattle.csp_steps.specs.declared.walk.Turned.TheVariants as turned
use Rattle.csp_steps.specs.declared.walk.Walk.{Walk}

-- whether the fields begin with inputs without a set, one of which has no value to take
abbrev pub is_blocked : List (List Atom) → List Field → Bool
is_blocked [] fields = false
is_blocked (set ∷ sets) [] = false
is_blocked (set ∷ sets) (field.Put e ∷ fields) = false
is_blocked (set ∷ sets) (field.Get x (Some s) ∷ fields) = false
is_blocked ([] ∷ sets) (field.Get x None ∷ fields) = true
is_blocked ((a ∷ set) ∷ sets) (field.Get x None ∷ fields) = is_blocked sets fields

-- whether the field is an input without a set
abbrev pub is_plain : Field → Bool
is_plain (field.Put e) = false
is_plain (field.Get x None) = true
is_plain (field.Get x (Some s)) = false

-- The number of fields with one more, which has the place k in its set, where those before have the number n. Counting stops at the end of 64 bits: no
-- event has a number beyond.
abbrev pub number_with : ℕ → List Atom → ℕ → ℕ
number_with n set k = min (n * length set + k) (2 ^ 64 - 1)

-- The same of a value that is kept with the number of values of its field.
abbrev pub number_with_value : ℕ → FieldValue → ℕ
number_with_value n v = min (n * v.count + v.place) (2 ^ 64 - 1)

-- the number that values of fields give an event among those of its channel, where the fields before them have the number n
abbrev pub number_from : ℕ → List FieldValue → ℕ
number_from n [] = n
number_from n (v ∷ values) = number_from (number_with_value n v) values

abbrev pub number_of : List FieldValue → ℕ
number_of values = number_from 0 values

-- a value of a field
abbrev pub value_in : List Atom → Value → Outcome FieldValue
value_in set v = and_then (field_place set v) (λ k. Ok (record { place = k; count = length set }))

-- a way to fill fields: the names that are bound with their values, and the number of its event among those of the prefix
abbrev pub Way : Type 0
Way = Env × ℕ

-- all ways to fill fields, as `ways_to_fill` has them, with the numbers of events in place of their values
abbrev pub ways_by_number : Content → List (List Atom) → List Field → Env → ℕ → Outcome (List Way)
ways_by_number p [] [] env n = Ok ((env, n) ∷ [])
ways_by_number p [] (f ∷ fields) env n = Err OutsideChannel
ways_by_number p (set ∷ sets) [] env n = Err OutsideChannel
ways_by_number p (set ∷ sets) (field.Put e ∷ fields) env n =
    and_then (value_under p env e) (λ v. and_then (field_place set v) (λ k. ways_by_number p sets fields env (number_with n set k)))
ways_by_number p (set ∷ sets) (field.Get x s ∷ fields) env n =
    and_then (given_under p env s) (λ given.
    each_joined (where_given given (λ k a. ways_by_number p sets fields ((x, One a) ∷ env) (number_with n set k))) 0 set)

-- the number of an event, by that of the first one; counting stops at the end of 32 bits
abbrev pub nth_event : ℕ → ℕ → ℕ
nth_event first n = min (first + n) (2 ^ 32 - 1)

-- the step of a way, before the process q
abbrev pub way_move : ℕ → Proc → Way → Move
way_move first q way = (Visible (nth_event first way.1), proc_with (given_by way.0) q)

-- moves, and after them those of ways
abbrev pub filled : List Move → ℕ → Proc → Outcome (List Way) → Outcome (List Move)
filled moves first q ways = and_then ways (λ found. Ok (moves ++ map (way_move first q) found))

-- the ways of an outcome, and after them those of another
abbrev pub then_ways : Outcome (List Way) → Outcome (List Way) → Outcome (List Way)
then_ways first second = and_then first (λ ways. and_then second (λ more. Ok (ways ++ more)))

module _ (p : Content) where
  -- those of the fields on turn, where the fields before them have the number n
  abbrev pub turn_ways : Env → ℕ → Turn → Outcome (List Way)
  turn_ways env n t = ways_by_number p t.sets.now t.fields.now env n

  abbrev pub turned_ways : Env → ℕ → Option Turn → Outcome (List Way)
  turned_ways env n None = Ok []
  turned_ways env n (Some t) = turn_ways env n t

  -- those of the value a of an input, which has the place k in the set of the field
  abbrev pub input_ways : Env → ℕ → Input → ℕ → Atom → Outcome (List Way)
  input_ways env n i = where_given i.given (λ k a. ways_by_number p i.sets.now i.fields.now ((i.name, One a) ∷ env) (number_with n i.set.now k))

  -- those of its values from a place on
  abbrev pub values_left : Env → ℕ → Input → ℕ → Outcome (List Way)
  values_left env n i k = each_joined (input_ways env n i) k (drop k i.set.now)

  -- those of what comes next
  abbrev pub next_ways : Env → ℕ → Next → Outcome (List Way)
  next_ways env n next.End = Ok ((env, n) ∷ [])
  next_ways env n (next.Input i) = values_left env n i 0

  -- those that are left to the values of inputs under which a walk stands, the last input first, and then the rest
  unfoldable pub frames_left : List FieldValue → List Frame → Env → Outcome (List Way) → Outcome (List Way)
  frames_left values [] env rest = rest
  frames_left values (f ∷ frames) env rest =
      frames_left values frames ((f.input.name, One f.atom) ∷ env) (then_ways (values_left env (number_of (take f.input.before values)) f.input f.next) rest)

  -- all that are left to a walk
  abbrev pub walk_ways : Walk → Outcome (List Way)
  walk_ways walk = then_ways (turned_ways (with_bound walk.bound.items []) (number_of walk.values.items) walk.turn) (frames_left walk.values.items walk.frames [] (Ok []))

-- what a call answers that goes through the outputs at the front of fields, which have the number n
abbrev pub GivesNext : Content → Env → ℕ → Result Next EvalFault → Outcome (List Way) → Type 0
GivesNext p env n result ways = Answers (λ found. ways ≡ next_ways p env n found) result ways

-- an input stands after so many fields
abbrev pub IsAfter : ℕ → Next → Type 0
IsAfter n next.End = Unit {0}
IsAfter n (next.Input i) = i.before ≡ n

-- the values of fields with those of more fields
abbrev pub IsLonger : List FieldValue → List FieldValue → Type 0
IsLonger old new = take (length old) new ≡ old

-- the name that an input binds, with the value on turn
abbrev pub name_of : Frame → ℕ × Atom
name_of f = (f.input.name, f.atom)

-- a walk binds the names of its inputs
abbrev pub BindsNames : Walk → Type 0
BindsNames walk = walk.bound.items ≡ map name_of walk.frames

-- the inputs stand one after another, after the first so many fields and within so many
abbrev pub AreNested : ℕ → List Frame → ℕ → Type 0
AreNested low [] high = low ≤ high
AreNested low (f ∷ frames) high = (low ≤ f.input.before) × AreNested f.input.before frames high

-- and has the values of all fields before what comes next
pub record IsSound (walk : Walk) : Type 0 where
  pub names : BindsNames walk
  pub nested : AreNested 0 walk.frames (length walk.values.items)

-- an input stands after those of a walk, which has the values of all fields before it
pub record IsUnder (walk : Walk) (input : Input) : Type 0 where
  pub names : BindsNames walk
  pub nested : AreNested 0 walk.frames input.before
  pub within : input.before ≤ length walk.values.items

-- How many turns a walk still takes at most: with each value of an input, one for it and those of the fields after it.
abbrev pub values_weight : ℕ → List Atom → ℕ
values_weight each [] = 1
values_weight each (a ∷ atoms) = each + 1 + values_weight each atoms

abbrev pub weight : List (List Atom) → ℕ
weight [] = 1
weight (set ∷ sets) = weight sets + values_weight (weight sets) set

abbrev pub turned_weight : Option Turn → ℕ
turned_weight None = 0
turned_weight (Some t) = weight t.sets.now

abbrev pub frames_weight : List Frame → ℕ
frames_weight [] = 0
frames_weight (f ∷ frames) = values_weight (weight f.input.sets.now) (drop f.next f.input.set.now) + frames_weight frames

abbrev pub walk_weight : Walk → ℕ
walk_weight walk = turned_weight walk.turn + frames_weight walk.frames

abbrev pub next_weight : Next → ℕ
next_weight next.End = 1
next_weight (next.Input i) = weight (i.set.now ∷ i.sets.now)

-- a walk that begins
pub record IsBegun (start : Turn) (walk : Walk) : Type 0 where
  pub bound : walk.bound.items ≡ []
  pub values : walk.values.items ≡ []
  pub frames : walk.frames ≡ []
  pub turn : walk.turn ≡ Some start

-- the walk without its last input, and without the name that this binds
pub record IsWithout (old new : Walk) (last : Frame) : Type 0 where
  pub frames : old.frames ≡ new.frames ++ last ∷ []
  pub values : old.values ≡ new.values
  pub turn : old.turn ≡ new.turn
  pub names : BindsNames old → BindsNames new

abbrev pub IsPopped : Walk → Walk → Option Frame → Type 0
IsPopped old new None = old.frames ≡ []
IsPopped old new (Some f) = IsWithout old new f

-- The walk stands under an input with its value at the place k, or goes on where the input has no more: it still comes to the values from that place
-- on, and then to what is left to the inputs before.
pub record IsTaken (old new : Walk) (input : Input) (k : ℕ) : Type 0 where
  pub ways : (p : Content)
      → then_ways (values_left p (with_bound old.bound.items []) (number_of (take input.before old.values.items)) input k) (frames_left p old.values.items old.frames [] (Ok []))
      ≡ walk_ways p new
  pub sound : IsSound new
  pub less : walk_weight new < values_weight (weight input.sets.now) (drop k input.set.now) + frames_weight old.frames

-- The walk comes to these ways and then to those that are left, and has fewer turns before it.
pub record HasTurned (p : Content) (found : List Way) (old new : Walk) : Type 0 where
  pub ways : walk_ways p old ≡ then_ways (Ok found) (walk_ways p new)
  pub sound : IsSound new
  pub less : walk_weight new < walk_weight old

-- what a turn of a walk comes to
abbrev pub IsTurned : Content → Walk → Walk → Turned → Type 0
IsTurned p old new turned.Way = HasTurned p ((with_bound new.bound.items [], number_of new.values.items) ∷ []) old new
IsTurned p old new turned.On = HasTurned p [] old new
IsTurned p old new turned.End = walk_ways p old ≡ Ok []

abbrev pub GivesTurned : Result Turned EvalFault → Content → Walk → Walk → Type 0
GivesTurned result p old new = Answers (IsTurned p old new) result (walk_ways p old)

module _ (p : Content) (first : ℕ) (to : ProcId) where
  -- steps, and after them those of the ways that are left to a walk, before the process at a place
  abbrev pub walk_moves : List Proc → Walk → List StepTo → Outcome (List Move)
  walk_moves trees walk steps = filled (map (seen trees) steps) first (tree_at trees to) (walk_ways p walk)

  -- The walk still comes to the same steps, and has fewer turns before it.
  pub record HasGone (before after : List Proc) (old new : Walk) (steps more : List StepTo) : Type 0 where
    pub moves : walk_moves before old steps ≡ walk_moves after new more
    pub sound : IsSound new
    pub less : walk_weight new < walk_weight old
    pub within : all_within (length after) more ≡ true

  -- the walk is at its end, with these steps
  pub record HasEnded (before after : List Proc) (old : Walk) (steps more : List StepTo) : Type 0 where
    pub moves : walk_moves before old steps ≡ Ok (map (seen after) more)
    pub within : all_within (length after) more ≡ true

  abbrev pub IsRound : List Proc → List Proc → Walk → Walk → List StepTo → List StepTo → Bool → Type 0
  IsRound before after old new steps more true = HasGone before after old new steps more
  IsRound before after old new steps more false = HasEnded before after old steps more

  abbrev pub GivesRound : Result Bool EvalFault → List Proc → List Proc → Walk → Walk → List StepTo → List StepTo → Type 0
  GivesRound result before after old new steps more = Answers (IsRound before after old new steps more) result (walk_moves before old steps)
