-- The values that the steps of a process need: truth values, sets, sets of events, and the values of arguments.
use Rattle.std.specs.Prelude.{ℕ, Bool, Option, Some, None, Ok, Err, List, [], ◌∷◌}
use Rattle.csp_atoms.specs.Prelude.{event_numbers}
use Rattle.csp_atoms.specs.declared.atom.Atom.{Atom}
use Rattle.csp_atoms.specs.declared.value.Value.{Value}
use Rattle.csp_program.specs.Prelude.{Outcome, and_then, Env, given_by, proc_with, as_set, as_truth, bound_to, value_of}
use Rattle.csp_program.specs.declared.expressions.Expr.{Expr}
use Rattle.csp_program.specs.declared.kinds.ValueKind.TheVariants.{Kind}
use Rattle.csp_program.specs.declared.processes.Proc.{Proc}
use Rattle.csp_program.specs.declared.programs.Body.{Body}
use Rattle.csp_program.specs.declared.programs.Content.{Content}
use Rattle.csp_program.specs.declared.programs.Def.{Def}
use Rattle.csp_program.specs.declared.programs.Body.TheVariants as body
use Rattle.process_steps.specs.Prefix.{set_under, value_under}

-- what each member of a list comes to, from the left
abbrev pub all_outcomes : {A B : Type 0} → (A → Outcome B) → List A → Outcome (List B)
all_outcomes f [] = Ok []
all_outcomes f (x ∷ xs) = and_then (f x) (λ y. and_then (all_outcomes f xs) (λ ys. Ok (y ∷ ys)))

-- a condition is true or false
abbrev pub truth_under : Content → Env → Expr → Outcome Bool
truth_under p env c = and_then (value_under p env c) as_truth

abbrev pub needed_events : Option (List ℕ) → Outcome (List ℕ)
needed_events None = Err Kind
needed_events (Some events) = Ok events

-- a set that holds nothing but events
abbrev pub events_under : Content → Env → Expr → Outcome (List ℕ)
events_under p env s = and_then (set_under p env s) (λ atoms. needed_events (event_numbers atoms))

-- the values of arguments, from the left
abbrev pub arguments_under : Content → Env → List Expr → Outcome (List Value)
arguments_under p env args = all_outcomes (value_under p env) args

-- the body of a definition of a process, with the values of the arguments in place of the parameters
abbrev pub process_of : List ℕ → Body → List Value → Outcome Proc
process_of params (body.Process q) vs = Ok (proc_with (given_by (bound_to params vs)) q)
process_of _ _ _ = Err Kind

abbrev pub called : Option Def → List Value → Outcome Proc
called None vs = Err Kind
called (Some def) vs = process_of def.params def.body vs

-- The same for expressions in which no name is free, as code evaluates them. What a step is doesn't cite these.
abbrev pub truth_in : Content → Expr → Outcome Bool
truth_in p c = and_then (value_of p c) as_truth

abbrev pub set_in : Content → Expr → Outcome (List Atom)
set_in p s = and_then (value_of p s) as_set

abbrev pub events_in : Content → Expr → Outcome (List ℕ)
events_in p s = and_then (set_in p s) (λ atoms. needed_events (event_numbers atoms))

abbrev pub arguments_in : Content → List Expr → Outcome (List Value)
arguments_in p args = all_outcomes (value_of p) args
