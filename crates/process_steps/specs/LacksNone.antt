-- A process lacks no value: each value that its steps need is there, and is of the kind and within the sets that they ask. One line for each form.
use Rattle.std.specs.Prelude.{◌≡◌, ℕ, true, false, IsTrue, Option, Some, Ok, List, [], ◌∷◌, slice_get}
use Rattle.csp_program.specs.Prelude.{Env, in_field, sets_of}
use Rattle.csp_program.specs.declared.expressions.EventPart.{EventPart}
use Rattle.csp_program.specs.declared.expressions.Expr.{Expr}
use Rattle.csp_program.specs.declared.expressions.Gen.{Gen}
use Rattle.csp_program.specs.declared.processes.Field.{Field}
use Rattle.csp_program.specs.declared.processes.Proc.{Proc}
use Rattle.csp_program.specs.declared.programs.Content.{Content}
use Rattle.process_steps.specs.Needed.{arguments_under, called, events_under, truth_under}
use Rattle.process_steps.specs.Prefix.{given_under, is_given, set_under, value_under}
use Rattle.process_steps.specs.Renaming.{Renamed, renaming_in}
use Rattle.process_steps.specs.Step.{each_put}
use Rattle.csp_atoms.specs.declared.atom.Atom.{Atom}
use Rattle.csp_atoms.specs.declared.value.Value.{Value}
use Rattle.csp_atoms.specs.declared.value.Value.TheVariants.{One}
use Rattle.csp_atoms.specs.declared.atom.Atom.TheVariants as atom
use Rattle.csp_program.specs.declared.processes.Field.TheVariants as field
use Rattle.csp_program.specs.declared.processes.Head.TheVariants as head
use Rattle.csp_program.specs.declared.processes.Proc.TheVariants as proc

-- fields that are filled from their sets lack no value, whichever values their inputs take
pub data FieldsLackNone (p : Content) : List (List Atom) → List Field → Env → Type 0 where
  none : (env : Env) → FieldsLackNone p [] [] env
  output : (set : List Atom) (sets : List (List Atom)) (e : Expr) (fields : List Field) (env : Env) (v : Value) (a : Atom) →
      value_under p env e ≡ Ok v → in_field set v ≡ Ok a → FieldsLackNone p sets fields env →
      FieldsLackNone p (set ∷ sets) (field.Put e ∷ fields) env
  input : (set : List Atom) (sets : List (List Atom)) (x : ℕ) (s : Option Expr) (fields : List Field) (env : Env) (given : Option (List Atom)) →
      given_under p env s ≡ Ok given →
      ((k : ℕ) (a : Atom) → slice_get set k ≡ Some a → IsTrue (is_given given a) → FieldsLackNone p sets fields ((x, One a) ∷ env)) →
      FieldsLackNone p (set ∷ sets) (field.Get x s ∷ fields) env

pub data LacksNone (p : Content) : Proc → Type 0 where
  stop : LacksNone p proc.Stop
  skip : LacksNone p proc.Skip
  ended : LacksNone p proc.Ended
  prefix : (c : ℕ) (fields : List Field) (q : Proc) (sets : List (List Atom)) →
      sets_of (slice_get p.channels c) ≡ Some sets → FieldsLackNone p sets fields [] → LacksNone p (proc.Prefix (head.Channel c) fields q)
  event : (e : ℕ) (q : Proc) → LacksNone p (proc.Prefix (head.Put (One (atom.Event e))) [] q)
  guard_true : (c : Expr) (q : Proc) → truth_under p [] c ≡ Ok true → LacksNone p q → LacksNone p (proc.Guard c q)
  guard_false : (c : Expr) (q : Proc) → truth_under p [] c ≡ Ok false → LacksNone p (proc.Guard c q)
  if_true : (c : Expr) (q r : Proc) → truth_under p [] c ≡ Ok true → LacksNone p q → LacksNone p (proc.If c q r)
  if_false : (c : Expr) (q r : Proc) → truth_under p [] c ≡ Ok false → LacksNone p r → LacksNone p (proc.If c q r)
  external : (qs : List Proc) → ((k : ℕ) (q : Proc) → slice_get qs k ≡ Some q → LacksNone p q) → LacksNone p (proc.External qs)
  internal : (qs : List Proc) → LacksNone p (proc.Internal qs)
  each_external : (x : ℕ) (s : Expr) (q : Proc) (atoms : List Atom) → set_under p [] s ≡ Ok atoms →
      LacksNone p (proc.External (each_put x atoms q)) → LacksNone p (proc.EachExternal x s q)
  -- a choice of one of no processes is none
  each_internal : (x : ℕ) (s : Expr) (q : Proc) (a : Atom) (atoms : List Atom) → set_under p [] s ≡ Ok (a ∷ atoms) → LacksNone p (proc.EachInternal x s q)
  hide : (q : Proc) (s : Expr) (hidden : List ℕ) → LacksNone p q → events_under p [] s ≡ Ok hidden → LacksNone p (proc.Hide q s)
  rename : (q : Proc) (pairs : List (EventPart × EventPart)) (gens : List Gen) (renamed : List Renamed) →
      LacksNone p q → renaming_in p pairs gens ≡ Ok renamed → LacksNone p (proc.Rename q pairs gens)
  call : (d : ℕ) (args : List Expr) (vs : List Value) (q : Proc) →
      arguments_under p [] args ≡ Ok vs → called (slice_get p.defs d) vs ≡ Ok q → LacksNone p (proc.Call d args)
  sequence : (q r : Proc) → LacksNone p q → LacksNone p (proc.Seq q r)
