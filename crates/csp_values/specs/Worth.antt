-- What the parts of an expression come to where so many uses of definitions may still be entered, under an environment: the definitions of the value
-- of an expression, applied to trees.
use Rattle.std.specs.Prelude.{◌≡◌, ℕ, ℤ, Bool, if◌then◌else◌, Result, Ok, Err, Some, List, [], ◌∷◌, map, slice_get}
use Rattle.csp_program.specs.Prelude.{Outcome, and_then, as_number, as_truth, as_set, many, range, set_binary, Env, Gathered, meaning, turn, front, front_events, values_of, items_added, fronts_added, one_event, sets_of, walked, gathered, uses_within, def_value, value_within, meanings}
use Rattle.csp_program.specs.declared.expressions.EventPart.{EventPart}
use Rattle.csp_program.specs.declared.expressions.Expr.{Expr}
use Rattle.csp_program.specs.declared.expressions.Gen.{Gen}
use Rattle.csp_program.specs.declared.programs.Content.{Content}
use Rattle.csp_program.specs.declared.programs.Def.{Def}
use Rattle.value_laws.specs.Numbers.{fields_number, first_of, front_number}
use Rattle.csp_atoms.specs.declared.atom.Atom.{Atom}
use Rattle.csp_atoms.specs.declared.value.Value.{Value}
use Rattle.csp_atoms.specs.declared.value.Value.TheVariants.{One}
use Rattle.csp_atoms.specs.declared.atom.Atom.TheVariants as atom
use Rattle.csp_base.specs.declared.operators.SetOp.{SetOp}
use Rattle.value_operators.specs.Gives.{EvalFault, IsFault}
use Rattle.csp_values.specs.declared.tally.Tally.{Tally}

-- an expression
unfoldable pub worth : Content → ℕ → Env → Expr → Outcome Value
worth p n env e = value_within p n e env

-- the number, the truth value and the set that an expression is worth
unfoldable pub number_worth : Content → ℕ → Env → Expr → Outcome ℤ
number_worth p n env e = and_then (worth p n env e) (λ v. as_number v)

unfoldable pub truth_worth : Content → ℕ → Env → Expr → Outcome Bool
truth_worth p n env e = and_then (worth p n env e) (λ v. as_truth v)

unfoldable pub atoms_worth : Content → ℕ → Env → Expr → Outcome (List Atom)
atoms_worth p n env e = and_then (worth p n env e) (λ v. as_set v)

-- forms on what their parts come to so
abbrev pub chosen : Outcome Bool → Outcome Value → Outcome Value → Outcome Value
chosen c a b = and_then c (λ t. if t then a else b)

abbrev pub range_of : Outcome ℤ → Outcome ℤ → Outcome Value
range_of a b = and_then a (λ m. and_then b (λ n. many (range m n)))

abbrev pub set_of : SetOp → Outcome (List Atom) → Outcome (List Atom) → Outcome Value
set_of op a b = and_then a (λ xs. and_then b (λ ys. many (set_binary op xs ys)))

-- a list of expressions
unfoldable pub worths : Content → ℕ → Env → List Expr → Outcome (List Value)
worths p n env es = values_of (meanings p n es) env

-- a use of the definition with the number d
unfoldable pub use_worth : Content → ℕ → ℕ → List Value → Outcome Value
use_worth p n d args = uses_within p n d args

-- the body of a definition
unfoldable pub body_worth : Content → ℕ → Def → List Value → Outcome Value
body_worth p n def args = def_value (meaning (uses_within p n) p.channels) (Some def) args

-- a set with the values of items in it
unfoldable pub with_items : Content → ℕ → Env → List Expr → List Atom → Outcome (List Atom)
with_items p n env es atoms = items_added (meanings p n es) env atoms

-- the number of the fields of an event, after others with the number k
unfoldable pub fields_worth : Content → ℕ → Env → List Expr → List (List Atom) → ℕ → Outcome ℕ
fields_worth p n env es sets k = fields_number (meanings p n es) sets env k

-- the event of the channel c that has these fields
unfoldable pub event_worth : Content → ℕ → Env → ℕ → List Expr → Outcome Value
event_worth p n env c es = and_then (front_events p.channels c (meanings p n es) env) (λ ds. and_then (one_event ds) (λ e. Ok (One (atom.Event e))))

-- the number of the first event of the channel c that begins with the fields
unfoldable pub front_worth : Content → ℕ → Env → ℕ → List Expr → Outcome ℕ
front_worth p n env c es = front_number (first_of (slice_get p.channels c)) (sets_of (slice_get p.channels c)) (meanings p n es) env

-- a set with the events of a front in it
unfoldable pub with_front : Content → ℕ → Env → EventPart → List Atom → Outcome (List Atom)
with_front p n env part atoms = fronts_added p.channels (front (uses_within p n) p.channels part ∷ []) env atoms

-- a set with the events of fronts in it
unfoldable pub with_fronts : Content → ℕ → Env → List EventPart → List Atom → Outcome (List Atom)
with_fronts p n env parts atoms = fronts_added p.channels (map (front (uses_within p n) p.channels) parts) env atoms

-- what a binding adds: the values of items, and the events of fronts
abbrev pub yielded : Content → ℕ → List Expr → List EventPart → Env → List Atom → Outcome (List Atom)
yielded p n items parts env atoms = and_then (with_items p n env items atoms) (λ more. with_fronts p n env parts more)

-- one more binding
unfoldable pub one_more_binding : Content → ℕ → List Expr → List EventPart → Env → Gathered → Outcome Gathered
one_more_binding p n items parts env state = gathered (yielded p n items parts) env state

-- the bindings of generators
unfoldable pub walk_worth : Content → ℕ → List Gen → List Expr → List EventPart → Env → Gathered → Outcome Gathered
walk_worth p n gens items parts env state = walked (map (turn (uses_within p n) p.channels) gens) (gathered (yielded p n items parts)) env state

abbrev pub gathered_of : Tally → Gathered
gathered_of tally = record { bindings = tally.bindings; atoms = tally.atoms }

-- what a call that walks generators answers
abbrev pub GivesTally : Result Tally EvalFault → Outcome Gathered → Type 0
GivesTally (Ok tally) outcome = outcome ≡ Ok (gathered_of tally)
GivesTally (Err fault) outcome = IsFault fault outcome
