-- What the names of a script stand for: a name that is bound hides a declared one, and a declared name is what its first declaration makes it.
-- Channels, constants and definitions are numbered from 0 in the order of their declarations; nametypes and datatypes are definitions too.
use Rattle.std.specs.Prelude.{◌+◌, if◌then◌else◌, ◌∷◌, ◌++◌}
use Rattle.script_names.specs.Sources.{Sense, ℕ, Bool, nat_eq, Option, Some, None, List, [], length, map, pointwise, lookup, is_member, Decl, Entity}

-- a name is the list of its bytes
abbrev pub Name : Type 0
Name = List ℕ

abbrev pub same_name : Name → Name → Bool
same_name x y = pointwise nat_eq x y

-- whether the name is among these
abbrev pub is_among : List Name → Name → Bool
is_among xs x = is_member same_name xs x

-- how many channels, constants and definitions were declared
pub record Counts : Type 0 where
  pub channels : ℕ
  pub constants : ℕ
  pub definitions : ℕ

-- with those of one more declaration
abbrev pub counted : Counts → Decl → Counts
counted n (Decl.Channel xs types) = record n { channels = n.channels + length xs }
counted n (Decl.Datatype x ks) = record n { constants = n.constants + length ks; definitions = n.definitions + 1 }
counted n (Decl.Nametype x t) = record n { definitions = n.definitions + 1 }
counted n (Decl.Define x params t) = record n { definitions = n.definitions + 1 }
counted n _ = n

-- names with what they stand for, in the order of the text
abbrev pub Entities : Type 0
Entities = List (Name × Entity)

abbrev pub channels_from : ℕ → ℕ → List Name → Entities
channels_from n fields [] = []
channels_from n fields (x ∷ xs) = (x, Entity.Channel n fields) ∷ channels_from (n + 1) fields xs

abbrev pub constants_from : ℕ → List Name → Entities
constants_from n [] = []
constants_from n (x ∷ xs) = (x, Entity.Constant n) ∷ constants_from (n + 1) xs

-- what a declaration declares, after so many of each kind
abbrev pub declares : Counts → Decl → Entities
declares n (Decl.Channel xs types) = channels_from n.channels (length types) xs
declares n (Decl.Datatype x ks) = (x, Entity.Set n.definitions) ∷ constants_from n.constants ks
declares n (Decl.Nametype x t) = (x, Entity.Set n.definitions) ∷ []
declares n (Decl.Define x params t) = (x, Entity.Definition n.definitions (length params)) ∷ []
declares _ _ = []

abbrev pub declared_from : Counts → List Decl → Entities
declared_from n [] = []
declared_from n (decl ∷ decls) = declares n decl ++ declared_from (counted n decl) decls

abbrev pub none_yet : Counts
none_yet = record { channels = 0; constants = 0; definitions = 0 }

-- the declared names of a script
abbrev pub declared : List Decl → Entities
declared decls = declared_from none_yet decls

abbrev pub names_declared : List Decl → List Name
names_declared decls = map (λ e. e.0) (declared decls)

-- what the first declaration of a name makes it
abbrev pub first_of : Entities → Name → Option Entity
first_of entities x = lookup (λ y. same_name x y) entities

-- what each declared name stands for
abbrev pub Meanings : Type 0
Meanings = Name → Option Entity

-- what the declared names of a script stand for
abbrev pub meanings_of : List Decl → Meanings
meanings_of decls x = first_of (declared decls) x

abbrev pub sense_of : Option Entity → Sense
sense_of None = Sense.Unknown
sense_of (Some e) = Sense.Declared e

-- what a name stands for under these bound names
abbrev pub sense_in : Meanings → List Name → Name → Sense
sense_in meanings names x = if is_among names x then Sense.Bound else sense_of (meanings x)
