-- All ways to fill the fields of a prefix as a list, or the first fault: fields from the left, values in rising order.
use Rattle.std.specs.Prelude.{ℕ, ◌+◌, if◌then◌else◌, Option, Some, None, Ok, Err, List, [], ◌∷◌, ◌++◌, slice_get}
use Rattle.csp_program.specs.Prelude.{Outcome, and_then, Env, in_field, sets_of}
use Rattle.csp_program.specs.declared.kinds.ValueKind.TheVariants.{Kind, OutsideChannel}
use Rattle.csp_program.specs.declared.processes.Field.{Field}
use Rattle.csp_program.specs.declared.processes.Head.{Head}
use Rattle.csp_program.specs.declared.programs.Content.{Content}
use Rattle.process_steps.specs.Prefix.{event_of, given_under, is_given, value_under}
use Rattle.csp_atoms.specs.declared.atom.Atom.{Atom}
use Rattle.csp_atoms.specs.declared.value.Value.{Value}
use Rattle.csp_atoms.specs.declared.value.Value.TheVariants.{One}
use Rattle.csp_atoms.specs.declared.atom.Atom.TheVariants as atom
use Rattle.csp_program.specs.declared.processes.Field.TheVariants as field
use Rattle.csp_program.specs.declared.processes.Head.TheVariants as head

-- The lists that the members of a list come to, one after another, from the left. The first of these members has the place k.
abbrev pub each_joined : {A B : Type 0} → (ℕ → A → Outcome (List B)) → ℕ → List A → Outcome (List B)
each_joined f k [] = Ok []
each_joined f k (x ∷ xs) = and_then (f k x) (λ ys. and_then (each_joined f (k + 1) xs) (λ more. Ok (ys ++ more)))

-- what the event of a prefix is among: those of a channel, or one event alone
pub data Among : Type 0 where
  channel : ℕ → List (List Atom) → Among
  event : ℕ → Among

-- the sets of its fields
abbrev pub sets_among : Among → List (List Atom)
sets_among (channel c sets) = sets
sets_among (event e) = []

-- the event with these values
abbrev pub event_among : Content → Among → List Atom → ℕ
event_among p (channel c sets) row = event_of p c row
event_among p (event e) row = e

abbrev pub of_channel : ℕ → Option (List (List Atom)) → Outcome Among
of_channel c None = Err Kind
of_channel c (Some sets) = Ok (channel c sets)

-- a value in place of a channel is a whole event
abbrev pub of_value : Value → Outcome Among
of_value (One (atom.Event e)) = Ok (event e)
of_value _ = Err Kind

-- the events that a head stands for
abbrev pub of_head : Content → Head → Outcome Among
of_head p (head.Channel c) = of_channel c (sets_of (slice_get p.channels c))
of_head p (head.Bound x) = Err Kind
of_head p (head.Put v) = of_value v

-- the names that are bound with their values, the last one first, and the values of the fields
abbrev pub Way : Type 0
Way = Env × List Atom

-- what a value of a field gives, where an input may take it
abbrev pub where_given : {W : Type 0} → Option (List Atom) → (ℕ → Atom → Outcome (List W)) → ℕ → Atom → Outcome (List W)
where_given given next k a = if is_given given a then next k a else Ok []

abbrev pub ways_to_fill : Content → List (List Atom) → List Field → Env → List Atom → Outcome (List Way)
ways_to_fill p [] [] env row = Ok ((env, row) ∷ [])
ways_to_fill p [] (f ∷ fields) env row = Err OutsideChannel
ways_to_fill p (set ∷ sets) [] env row = Err OutsideChannel
ways_to_fill p (set ∷ sets) (field.Put e ∷ fields) env row =
    and_then (value_under p env e) (λ v. and_then (in_field set v) (λ a. ways_to_fill p sets fields env (row ++ a ∷ [])))
ways_to_fill p (set ∷ sets) (field.Get x s ∷ fields) env row =
    and_then (given_under p env s) (λ given.
    each_joined (where_given given (λ k a. ways_to_fill p sets fields ((x, One a) ∷ env) (row ++ a ∷ []))) 0 set)
