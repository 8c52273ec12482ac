-- The ways to fill the fields of a prefix. The channel has a set of values for each field. Fields are filled from the left, and the value of an
-- input stands for its name in the fields after it and in the process after the prefix. The event is the one of the channel that has these values.
use Rattle.std.specs.Prelude.{◌≡◌, ℕ, Bool, true, IsTrue, Option, Some, None, Ok, List, [], ◌∷◌, ◌++◌, get_or, length, slice_get}
use Rattle.csp_atoms.specs.Prelude.{has_atom}
use Rattle.csp_atoms.specs.declared.atom.Atom.{Atom}
use Rattle.csp_atoms.specs.declared.value.Value.{Value}
use Rattle.csp_atoms.specs.declared.value.Value.TheVariants.{One}
use Rattle.csp_program.specs.Prelude.{events_with, Outcome, and_then, Env, as_set, in_field, value_within}
use Rattle.csp_program.specs.declared.expressions.Expr.{Expr}
use Rattle.csp_program.specs.declared.processes.Field.{Field}
use Rattle.csp_program.specs.declared.programs.Content.{Content}
use Rattle.csp_program.specs.declared.processes.Field.TheVariants as field

-- the value of an expression under the names that are bound so far, the last one first
abbrev pub value_under : Content → Env → Expr → Outcome Value
value_under p env e = value_within p (length p.defs) e env

abbrev pub set_under : Content → Env → Expr → Outcome (List Atom)
set_under p env s = and_then (value_under p env s) as_set

-- the values that an input may take, where a set is given
abbrev pub given_under : Content → Env → Option Expr → Outcome (Option (List Atom))
given_under p env None = Ok None
given_under p env (Some s) = and_then (set_under p env s) (λ atoms. Ok (Some atoms))

abbrev pub is_given : Option (List Atom) → Atom → Bool
is_given None a = true
is_given (Some atoms) a = has_atom atoms a

-- The fields can be filled with values from their sets. Names and values before the fields are the first environment and the first row, those after
-- them the second ones.
pub data Fills (p : Content) : List (List Atom) → List Field → Env → List Atom → Env → List Atom → Type 0 where
  filled : (env : Env) (row : List Atom) → Fills p [] [] env row env row
  -- the value of an expression, which is one of its field
  output : (set : List Atom) (sets : List (List Atom)) (e : Expr) (fields : List Field) (env : Env) (row : List Atom) (last : Env) (whole : List Atom)
      (v : Value) (a : Atom) →
      value_under p env e ≡ Ok v → in_field set v ≡ Ok a → Fills p sets fields env (row ++ a ∷ []) last whole →
      Fills p (set ∷ sets) (field.Put e ∷ fields) env row last whole
  -- any value of the field that is also in the given set
  input : (set : List Atom) (sets : List (List Atom)) (x : ℕ) (s : Option Expr) (fields : List Field) (env : Env) (row : List Atom) (last : Env)
      (whole : List Atom) (given : Option (List Atom)) (a : Atom) (k : ℕ) →
      given_under p env s ≡ Ok given → slice_get set k ≡ Some a → IsTrue (is_given given a) →
      Fills p sets fields ((x, One a) ∷ env) (row ++ a ∷ []) last whole →
      Fills p (set ∷ sets) (field.Get x s ∷ fields) env row last whole

-- the event of a channel that has these values
abbrev pub event_of : Content → ℕ → List Atom → ℕ
event_of p c row = get_or (events_with p.channels c row) 0 0
