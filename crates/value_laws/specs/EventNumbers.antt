-- In a program in order, the number that is computed for an event from the values of its fields is the place of the event in the event table of the
-- program's channels. The events that begin with given values stand there one after another.
use Rattle.std.specs.Prelude.{◌≡◌, ◌↔◌, ℕ, ◌+◌, ◌<◌, ◌≤◌, Some, Ok, List, ◌++◌, map, length, slice_get}
use Rattle.csp_program.specs.Prelude.{event_of, event_table, IsInOrder, Outcome, Env, Meaning, sets_of, values_of}
use Rattle.csp_program.specs.declared.programs.Channel.{Channel}
use Rattle.csp_program.specs.declared.programs.Content.{Content}
use Rattle.value_laws.specs.Numbers.{events_each, first_of, front_number}
use Rattle.csp_atoms.specs.declared.atom.Atom.{Atom}
use Rattle.csp_atoms.specs.declared.value.Value.TheVariants.{One}

-- the channel with the number c has these field sets
abbrev pub HasSets : List Channel → ℕ → List (List Atom) → Type 0
HasSets channels c sets = sets_of (slice_get channels c) ≡ Some sets

-- the expressions have these atoms as their values
abbrev pub HaveValues : List Meaning → Env → List Atom → Type 0
HaveValues fields env row = values_of fields env ≡ Ok (map (λ a. One a) row)

-- the number that is computed for the first event of the channel with the number c that begins with these fields
abbrev pub computed_number : List Channel → ℕ → List Meaning → Env → Outcome ℕ
computed_number channels c fields env = front_number (first_of (slice_get channels c)) (sets_of (slice_get channels c)) fields env

-- at that place of the event table stands the event of the channel with the number c that has these values
abbrev pub StandsAt : List Channel → ℕ → ℕ → List Atom → Type 0
StandsAt channels place c row = slice_get (event_table channels) place ≡ Some (event_of c row)

-- where a number is computed for an event with all of its fields, the fields have values, and the event stands at that place
abbrev pub NumbersArePlaces : Type 0
NumbersArePlaces =
    (p : Content) → IsInOrder p → (c : ℕ) (sets : List (List Atom)) (fields : List Meaning) (env : Env) (number : ℕ) →
    HasSets p.channels c sets → length fields ≡ length sets → computed_number p.channels c fields env ≡ Ok number →
    (row : List Atom) × HaveValues fields env row × StandsAt p.channels number c row

-- for each event of the table its place is computed
abbrev pub PlacesAreNumbers : Type 0
PlacesAreNumbers =
    (p : Content) → IsInOrder p → (c place : ℕ) (row : List Atom) → StandsAt p.channels place c row →
    (fields : List Meaning) (env : Env) → HaveValues fields env row → computed_number p.channels c fields env ≡ Ok place

-- the events that begin with given values are those from the computed number on, as many as there are choices of the other fields
abbrev pub BeginnersStandTogether : Type 0
BeginnersStandTogether =
    (p : Content) → IsInOrder p → (c : ℕ) (sets : List (List Atom)) (fields : List Meaning) (env : Env) (row : List Atom) (first : ℕ) →
    HasSets p.channels c sets → HaveValues fields env row → computed_number p.channels c fields env ≡ Ok first →
    (place : ℕ) → ((first ≤ place) × (place < first + events_each fields sets)) ↔ ((rest : List Atom) × StandsAt p.channels place c (row ++ rest))
