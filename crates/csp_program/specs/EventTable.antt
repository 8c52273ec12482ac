-- The event table of a list of channels: the channels in their order, and for each channel the values of its fields in rising order, the first
-- field slowest. A channel that has no field sets yet has no events.
use Rattle.std.specs.Prelude.{ℕ, ◌+◌, Bool, true, false, ◌&&◌, nat_eq, if◌then◌else◌, Option, Some, None, List, [], ◌∷◌, ◌++◌, map}
use Rattle.csp_atoms.specs.Prelude.{same}
use Rattle.csp_atoms.specs.declared.atom.Atom.{Atom}
use Rattle.csp_program.specs.Lists.{joined}
use Rattle.csp_program.specs.declared.programs.Channel.{Channel}
use Rattle.csp_program.specs.declared.programs.EventInfo.{EventInfo}

-- the lists that take one value from each set, the first set slowest
abbrev pub rows : List (List Atom) → List (List Atom)
rows [] = [] ∷ []
rows (set ∷ sets) = joined (map (λ atom. map (λ row. atom ∷ row) (rows sets)) set)

abbrev pub event_of : ℕ → List Atom → EventInfo
event_of c row = record { channel = c; fields = row }

-- the events of the channel with the number c
abbrev pub channel_events : ℕ → Option (List (List Atom)) → List EventInfo
channel_events c None = []
channel_events c (Some sets) = map (event_of c) (rows sets)

-- the events of channels that are numbered from c on
abbrev pub events_from_channel : ℕ → List Channel → List EventInfo
events_from_channel c [] = []
events_from_channel c (channel ∷ channels) = channel_events c channel.fields ++ events_from_channel (c + 1) channels

abbrev pub event_table : List Channel → List EventInfo
event_table channels = events_from_channel 0 channels

-- whether the list begins with the row
abbrev pub begins_with : List Atom → List Atom → Bool
begins_with [] values = true
begins_with (a ∷ row) [] = false
begins_with (a ∷ row) (b ∷ values) = same a b && begins_with row values

-- whether the event is of the channel with the number c, and its values begin with the row
abbrev pub begins : ℕ → List Atom → EventInfo → Bool
begins c row event = nat_eq event.channel c && begins_with row event.fields

-- the places of the events that begin so, where the first of the list has the place k
abbrev pub places_from : ℕ → List EventInfo → ℕ → List Atom → List ℕ
places_from k [] c row = []
places_from k (event ∷ events) c row = if begins c row event then k ∷ places_from (k + 1) events c row else places_from (k + 1) events c row

-- The places in the event table of the events of the channel with the number c that begin with the row. An event is its place.
abbrev pub events_with : List Channel → ℕ → List Atom → List ℕ
events_with channels c row = places_from 0 (event_table channels) c row
