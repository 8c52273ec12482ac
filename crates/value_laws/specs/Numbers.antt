-- The place of an event in the event table, by arithmetic: from the places of the values in the sets of the channel's fields, the first field slowest.
-- No definition of what a program means cites this; it serves the laws that a program finds events so.
use Rattle.std.specs.Prelude.{◌≡◌, ℕ, zero, suc, ◌+◌, ◌*◌, ◌<◌, ◌^◌, Option, Some, None, Ok, Err, List, [], ◌∷◌, map, length, drop, slice_get}
use Rattle.csp_atoms.specs.Prelude.{IsRising, place_of}
use Rattle.csp_atoms.specs.declared.atom.Atom.{Atom}
use Rattle.csp_atoms.specs.declared.value.Value.{Value}
use Rattle.csp_atoms.specs.declared.value.Value.TheVariants.{One, Many}
use Rattle.csp_program.specs.Prelude.{row_count, event_table, Outcome, and_then, Env, Meaning, front_events, sets_of}
use Rattle.csp_program.specs.declared.kinds.ValueKind.TheVariants.{Kind, OutsideChannel}
use Rattle.csp_program.specs.declared.programs.Channel.{Channel}
use Rattle.csp_program.specs.EventNumber as number
use Rattle.csp_atoms.specs.declared.atom.Atom.TheVariants as atom

abbrev pub found_place : Option ℕ → Outcome ℕ
found_place None = Err OutsideChannel
found_place (Some n) = Ok n

-- the place of a value in the values of a field
abbrev pub field_place : List Atom → Value → Outcome ℕ
field_place set (One a) = found_place (place_of set a)
field_place set (Many atoms) = Err OutsideChannel

-- the number of the first fields of an event among all that these fields can be, where the fields before them have the number n
abbrev pub fields_number : List Meaning → List (List Atom) → Env → ℕ → Outcome ℕ
fields_number [] sets env n = Ok n
fields_number (e ∷ es) [] env n = Err OutsideChannel
fields_number (e ∷ es) (set ∷ sets) env n =
    and_then (e env) (λ v. and_then (field_place set v) (λ k. fields_number es sets env (n * length set + k)))

-- how many events begin with one choice of the first fields
abbrev pub events_each : List Meaning → List (List Atom) → ℕ
events_each fields sets = row_count (drop (length fields) sets)

-- the number of the first event of a channel
abbrev pub first_of : Option Channel → ℕ
first_of None = 0
first_of (Some channel) = channel.first

-- the number of the first event that begins with these fields, where the channel's first event has the number first
abbrev pub front_number : ℕ → Option (List (List Atom)) → List Meaning → Env → Outcome ℕ
front_number first None fields env = Err Kind
front_number first (Some sets) fields env = and_then (fields_number fields sets env 0) (λ n. Ok (first + n * events_each fields sets))

abbrev pub front_count : Option (List (List Atom)) → List Meaning → ℕ
front_count None fields = 0
front_count (Some sets) fields = events_each fields sets

-- the numbers from e on, so many of them, and the events that have them
abbrev pub span : ℕ → ℕ → List ℕ
span e zero = []
span e (suc k) = e ∷ span (e + 1) k

abbrev pub events_from : ℕ → ℕ → List Atom
events_from e k = map (λ d. atom.Event d) (span e k)

-- each list of values rises
abbrev pub AllRise : List (List Atom) → Type 0
AllRise [] = Unit {0}
AllRise (set ∷ sets) = IsRising set × AllRise sets

-- Channels whose events can be found by arithmetic, in 32 bits: a channel that has field sets keeps the number of its first event, and the values of
-- each of its fields rise.
pub record ChannelsFit (channels : List Channel) : Type 0 where
  pub firsts : (c : ℕ) (sets : List (List Atom)) → sets_of (slice_get channels c) ≡ Some sets → first_of (slice_get channels c) ≡ number.first_event channels c
  pub rise : (c : ℕ) (sets : List (List Atom)) → sets_of (slice_get channels c) ≡ Some sets → AllRise sets
  pub few : length (event_table channels) < 2 ^ 32

-- the events that begin with some fields stand one after another, from the number on that is computed for the first
abbrev pub EventsAreFound : Type 0
EventsAreFound =
    (channels : List Channel) → ChannelsFit channels → (c : ℕ) (fields : List Meaning) (env : Env) →
    front_events channels c fields env ≡
    and_then (front_number (first_of (slice_get channels c)) (sets_of (slice_get channels c)) fields env) (λ e. Ok (span e (front_count (sets_of (slice_get channels c)) fields)))
