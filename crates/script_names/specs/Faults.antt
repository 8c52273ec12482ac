-- The faults of a declaration, from what it says: one line for each case.
use Rattle.std.specs.Prelude.{◌-◌, ◌&&◌, ◌||◌, if◌then◌else◌}
use Rattle.script_names.specs.Sources.{Sense, Need, ℕ, zero, suc, Bool, true, false, not, nat_eq, nat_lt, Option, Some, None, List, slice_get, Class, Entity, Kind, Occurrence, Declares, Binds, Notes, Uses, Form, Parallel, Use}
use Rattle.script_names.specs.Names.{Name, Meanings}

abbrev pub is_bound : Sense → Bool
is_bound Sense.Bound = true
is_bound _ = false

abbrev pub is_channel : Sense → Bool
is_channel (Sense.Declared (Entity.Channel c n)) = true
is_channel _ = false

abbrev pub is_constant : Option Entity → Bool
is_constant (Some (Entity.Constant k)) = true
is_constant _ = false

-- a definition, other than a nametype or a datatype
abbrev pub is_definition : Sense → Bool
is_definition (Sense.Declared (Entity.Definition d n)) = true
is_definition _ = false

-- A name is neither bound nor declared.
abbrev pub unknown_name : Occurrence Name → Option Name
unknown_name (Uses x Sense.Unknown how) = Some x
unknown_name _ = None

abbrev pub when : Bool → Name → Option Name
when b x = if b then Some x else None

module _ (meanings : Meanings) where
  -- A name was declared before, a parameter repeats, a bound name is a constant, or a process was annotated before by an annotation of the kind.
  abbrev pub repeated_name : Occurrence Name → Option Name
  repeated_name (Declares x before) = when before x
  repeated_name (Binds x repeats) = when (repeats || is_constant (meanings x)) x
  repeated_name (Notes x before) = when before x
  repeated_name _ = None

-- the class of a definition, and whether it is a network definition
abbrev pub kind_class : Option Kind → Class
kind_class None = Class.Unknown
kind_class (Some kind) = kind.class

abbrev pub kind_network : Option Kind → Bool
kind_network None = false
kind_network (Some kind) = kind.network

-- a process stands where data is needed, or the reverse
abbrev pub clashes : Class → Need → Bool
clashes Class.Process Need.Data = true
clashes Class.Data Need.Process = true
clashes _ _ = false

module _ (kinds : List Kind) where
  -- the class of what a name stands for
  abbrev pub class_of : Sense → Class
  class_of (Sense.Declared (Entity.Definition d n)) = kind_class (slice_get kinds d)
  class_of Sense.Unknown = Class.Unknown
  class_of _ = Class.Data

  abbrev pub is_network : Sense → Bool
  is_network (Sense.Declared (Entity.Definition d n)) = kind_network (slice_get kinds d)
  is_network _ = false

  -- What stands at a place is not of the kind that is needed there.
  abbrev pub is_wrong_kind : Occurrence Name → Bool
  is_wrong_kind (Form c place) = clashes c place.need
  is_wrong_kind (Parallel place) = clashes Class.Process place.need
  is_wrong_kind (Uses x s (Use.Alone place)) = clashes (class_of s) place.need
  is_wrong_kind (Uses x s (Use.Called n place)) = not (is_definition s) || clashes (class_of s) place.need
  is_wrong_kind (Uses x s (Use.Dotted n)) = not (is_channel s)
  is_wrong_kind (Uses x s (Use.Heads zero)) = not (is_channel s || is_bound s)
  is_wrong_kind (Uses x s (Use.Heads (suc n))) = not (is_channel s)
  is_wrong_kind (Uses x s (Use.Begins n)) = not (is_channel s)
  is_wrong_kind (Uses x s (Use.Renamed n new m)) = false
  is_wrong_kind (Uses x s Use.Annotated) = not (is_definition s) || clashes (class_of s) Need.Process
  is_wrong_kind (Uses x s (Use.Annotates process)) = not (is_definition s) || clashes (class_of s) Need.Data
  is_wrong_kind _ = false

  -- A parallel or the use of a network definition stands outside the network positions.
  abbrev pub is_inside : Occurrence Name → Bool
  is_inside (Parallel place) = not place.network
  is_inside (Uses x s (Use.Alone place)) = is_network s && not place.network
  is_inside (Uses x s (Use.Called n place)) = is_network s && not place.network
  is_inside _ = false

-- the number of parameters of a definition, and of fields of a channel
abbrev pub takes_other : Sense → ℕ → Bool
takes_other (Sense.Declared (Entity.Definition d n)) m = not (nat_eq n m)
takes_other _ m = false

abbrev pub has_other : Sense → ℕ → Bool
has_other (Sense.Declared (Entity.Channel c n)) m = not (nat_eq n m)
has_other _ m = false

abbrev pub has_fewer : Sense → ℕ → Bool
has_fewer (Sense.Declared (Entity.Channel c n)) m = nat_lt n m
has_fewer _ m = false

-- the two sides of a renaming don't leave the same number of fields, or one side has too many
abbrev pub leave_other : Sense → ℕ → Sense → ℕ → Bool
leave_other (Sense.Declared (Entity.Channel c n)) given (Sense.Declared (Entity.Channel c' n')) given' =
    nat_lt n given || (nat_lt n' given' || not (nat_eq (n - given) (n' - given')))
leave_other _ given _ given' = false

-- the two definitions differ in their number of parameters
abbrev pub take_other : Sense → Sense → Bool
take_other (Sense.Declared (Entity.Definition d n)) s = takes_other s n
take_other _ s = false

-- A call, an event, a renaming pair or an annotated set has the wrong number of arguments, fields or parameters.
abbrev pub is_wrong_count : Sense → Use → Bool
is_wrong_count s (Use.Alone place) = takes_other s 0 || has_other s 0
is_wrong_count s (Use.Called n place) = takes_other s n
is_wrong_count s (Use.Dotted n) = has_other s n
is_wrong_count s (Use.Heads n) = has_other s n
is_wrong_count s (Use.Begins n) = has_fewer s n
is_wrong_count s (Use.Renamed n new m) = leave_other s n new m
is_wrong_count s Use.Annotated = false
is_wrong_count s (Use.Annotates process) = take_other process s

abbrev pub wrong_count : Occurrence Name → Option Name
wrong_count (Uses x s how) = when (is_wrong_count s how) x
wrong_count _ = None
