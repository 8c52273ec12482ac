-- The steps of a process over a program (Roscoe, The Theory and Practice of Concurrency, 1997, chapter 7). A label is silent, an event or tick.
-- A call keeps its arguments as they are written until it is entered.
use Rattle.std.specs.Prelude.{◌≡◌, ℕ, true, false, Some, Ok, List, [], ◌∷◌, map, slice_get, slice_set}
use Rattle.csp_base.specs.Members.{has}
use Rattle.csp_program.specs.Prelude.{given_by, proc_with, Env, sets_of}
use Rattle.csp_program.specs.declared.expressions.EventPart.{EventPart}
use Rattle.csp_program.specs.declared.expressions.Expr.{Expr}
use Rattle.csp_program.specs.declared.expressions.Gen.{Gen}
use Rattle.csp_program.specs.declared.processes.Field.{Field}
use Rattle.csp_program.specs.declared.processes.Proc.{Proc}
use Rattle.csp_program.specs.declared.programs.Content.{Content}
use Rattle.process_steps.specs.Needed.{arguments_under, called, events_under, truth_under}
use Rattle.process_steps.specs.Prefix.{Fills, event_of, set_under}
use Rattle.process_steps.specs.Renaming.{Renamed, images, renaming_in}
use Rattle.csp_atoms.specs.declared.atom.Atom.{Atom}
use Rattle.csp_atoms.specs.declared.value.Value.{Value}
use Rattle.csp_atoms.specs.declared.value.Value.TheVariants.{One}
use Rattle.csp_atoms.specs.declared.atom.Atom.TheVariants as atom
use Rattle.csp_program.specs.declared.processes.Head.TheVariants as head
use Rattle.csp_program.specs.declared.processes.Proc.TheVariants as proc
use Rattle.process_steps.specs.declared.label.Label.{Label}
use Rattle.process_steps.specs.declared.label.Label.TheVariants.{Silent, Visible, Tick}

-- the process with each of the values in place of the name x
abbrev pub each_put : ℕ → List Atom → Proc → List Proc
each_put x atoms q = map (λ a. proc_with (given_by ((x, One a) ∷ [])) q) atoms

-- STOP and a process that has ended have no step: no case below is theirs.
pub data Step (p : Content) : Proc → Label → Proc → Type 0 where
  skip : Step p proc.Skip Tick proc.Ended
  -- an event for each way to fill the fields; the values of the inputs go on
  prefix : (c : ℕ) (fields : List Field) (q : Proc) (sets : List (List Atom)) (env : Env) (row : List Atom) →
      sets_of (slice_get p.channels c) ≡ Some sets → Fills p sets fields [] [] env row →
      Step p (proc.Prefix (head.Channel c) fields q) (Visible (event_of p c row)) (proc_with (given_by env) q)
  -- a whole event in place of a channel has no field
  event : (e : ℕ) (q : Proc) → Step p (proc.Prefix (head.Put (One (atom.Event e))) [] q) (Visible e) q
  -- the body of the definition, with the values of the arguments
  call : (d : ℕ) (args : List Expr) (vs : List Value) (q : Proc) →
      arguments_under p [] args ≡ Ok vs → called (slice_get p.defs d) vs ≡ Ok q →
      Step p (proc.Call d args) Silent q
  -- the chosen part
  if_true : (c : Expr) (q r s : Proc) (l : Label) → truth_under p [] c ≡ Ok true → Step p q l s → Step p (proc.If c q r) l s
  if_false : (c : Expr) (q r s : Proc) (l : Label) → truth_under p [] c ≡ Ok false → Step p r l s → Step p (proc.If c q r) l s
  guard : (c : Expr) (q r : Proc) (l : Label) → truth_under p [] c ≡ Ok true → Step p q l r → Step p (proc.Guard c q) l r
  -- the first part goes on until it ends; that it ends isn't seen
  sequence_silent : (q r s : Proc) → Step p q Silent s → Step p (proc.Seq q r) Silent (proc.Seq s r)
  sequence_event : (q r s : Proc) (e : ℕ) → Step p q (Visible e) s → Step p (proc.Seq q r) (Visible e) (proc.Seq s r)
  sequence_tick : (q r s : Proc) → Step p q Tick s → Step p (proc.Seq q r) Silent r
  -- a silent step of an operand leaves the choice open; an event or a tick makes it
  external_silent : (qs : List Proc) (k : ℕ) (q r : Proc) → slice_get qs k ≡ Some q → Step p q Silent r →
      Step p (proc.External qs) Silent (proc.External (slice_set qs k r))
  external_event : (qs : List Proc) (k : ℕ) (q r : Proc) (e : ℕ) → slice_get qs k ≡ Some q → Step p q (Visible e) r →
      Step p (proc.External qs) (Visible e) r
  external_tick : (qs : List Proc) (k : ℕ) (q r : Proc) → slice_get qs k ≡ Some q → Step p q Tick r →
      Step p (proc.External qs) Tick r
  internal : (qs : List Proc) (k : ℕ) (q : Proc) → slice_get qs k ≡ Some q → Step p (proc.Internal qs) Silent q
  -- a choice between the bodies, one for each value of the set
  each_external : (x : ℕ) (s : Expr) (q r : Proc) (l : Label) (atoms : List Atom) → set_under p [] s ≡ Ok atoms →
      Step p (proc.External (each_put x atoms q)) l r → Step p (proc.EachExternal x s q) l r
  each_internal : (x : ℕ) (s : Expr) (q r : Proc) (l : Label) (atoms : List Atom) → set_under p [] s ≡ Ok atoms →
      Step p (proc.Internal (each_put x atoms q)) l r → Step p (proc.EachInternal x s q) l r
  -- the events of the set aren't seen
  hide_silent : (q r : Proc) (s : Expr) → Step p q Silent r → Step p (proc.Hide q s) Silent (proc.Hide r s)
  hide_hidden : (q r : Proc) (s : Expr) (e : ℕ) (hidden : List ℕ) → events_under p [] s ≡ Ok hidden → has hidden e ≡ true → Step p q (Visible e) r →
      Step p (proc.Hide q s) Silent (proc.Hide r s)
  hide_seen : (q r : Proc) (s : Expr) (e : ℕ) (hidden : List ℕ) → events_under p [] s ≡ Ok hidden → has hidden e ≡ false → Step p q (Visible e) r →
      Step p (proc.Hide q s) (Visible e) (proc.Hide r s)
  hide_tick : (q r : Proc) (s : Expr) → Step p q Tick r → Step p (proc.Hide q s) Tick proc.Ended
  -- an event is seen as each event that it becomes
  rename_silent : (q r : Proc) (pairs : List (EventPart × EventPart)) (gens : List Gen) → Step p q Silent r →
      Step p (proc.Rename q pairs gens) Silent (proc.Rename r pairs gens)
  rename_event : (q r : Proc) (pairs : List (EventPart × EventPart)) (gens : List Gen) (e d k : ℕ) (renamed : List Renamed) →
      renaming_in p pairs gens ≡ Ok renamed → slice_get (images renamed e) k ≡ Some d → Step p q (Visible e) r →
      Step p (proc.Rename q pairs gens) (Visible d) (proc.Rename r pairs gens)
  rename_tick : (q r : Proc) (pairs : List (EventPart × EventPart)) (gens : List Gen) → Step p q Tick r →
      Step p (proc.Rename q pairs gens) Tick proc.Ended
