-- How many events channels have, and the number of the first event of each channel in the event table.
use Rattle.std.specs.Prelude.{◌≡◌, ℕ, suc, zero, ◌+◌, ◌*◌, Option, Some, None, List, [], ◌∷◌, length, slice_get}
use Rattle.csp_atoms.specs.declared.atom.Atom.{Atom}
use Rattle.csp_program.specs.declared.programs.Channel.{Channel}

-- how many lists take one value from each set
abbrev pub row_count : List (List Atom) → ℕ
row_count [] = 1
row_count (set ∷ sets) = length set * row_count sets

abbrev pub event_count : Option (List (List Atom)) → ℕ
event_count None = 0
event_count (Some sets) = row_count sets

-- the number of the first event of the channel with the number c
abbrev pub first_event : List Channel → ℕ → ℕ
first_event channels zero = 0
first_event [] (suc c) = 0
first_event (channel ∷ channels) (suc c) = event_count channel.fields + first_event channels c

-- each channel keeps the number of its first event
abbrev pub KeepFirsts : List Channel → Type 0
KeepFirsts channels = (c : ℕ) (channel : Channel) → slice_get channels c ≡ Some channel → channel.first ≡ first_event channels c
