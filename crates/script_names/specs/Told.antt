-- The name fault of a script: that of the first declaration which has one, there the one with the least number, there at the first name.
use Rattle.std.specs.Prelude.{◌+◌, ◌&&◌, if◌then◌else◌, ◌∷◌, ◌++◌}
use Rattle.script_names.specs.Sources.{MOST_DATA_DEPTH, Need, Place, ℕ, Bool, true, false, nat_lt, Option, Some, None, List, [], length, map, slice_get, list_any, option_map, Decl, Tree, ResolveFault, Class, Kind, Occurrence, Declares, Binds, Notes, Uses, Use}
use Rattle.csp_base.specs.Standard.{flat_map}
use Rattle.script_names.specs.Depth.{depth_within}
use Rattle.script_names.specs.Faults.{unknown_name, repeated_name, is_wrong_kind, wrong_count, is_inside, kind_class, kind_network}
use Rattle.script_names.specs.Names.{Name, Meanings, Counts, counted, none_yet, sense_in, is_among, meanings_of}
use Rattle.script_names.specs.Says.{tree_says}
pub use Rattle.script_names.specs.Names.{names_declared}
pub use Rattle.script_names.specs.Once.{with_roles, with_uses}

-- what is said of names one after another: of each, whether it stands before
abbrev pub each_after : (Name → Bool → Occurrence Name) → List Name → List Name → List (Occurrence Name)
each_after says before [] = []
each_after says before (x ∷ xs) = says x (is_among before x) ∷ each_after says (before ++ x ∷ []) xs

-- the names are declared after these
abbrev pub declared_after : List Name → List Name → List (Occurrence Name)
declared_after = each_after Declares

-- the parameters are bound after these
abbrev pub parameters_after : List Name → List Name → List (Occurrence Name)
parameters_after = each_after Binds

-- a body must be of the class of its definition, if it has one
abbrev pub need_of : Class → Need
need_of Class.Data = Need.Data
need_of Class.Process = Need.Process
need_of Class.Unknown = Need.Either

-- the body of a definition
abbrev pub body_place : Option Kind → Place
body_place kind = record { need = need_of (kind_class kind); network = kind_network kind; level = 1 }

-- a type of a channel, the body of a nametype
abbrev pub data_place : Place
data_place = record { need = Need.Data; network = false; level = 1 }

-- the asserted call
abbrev pub root_place : Place
root_place = record { need = Need.Process; network = true; level = 1 }

abbrev pub counts_of : Counts → List Decl → Counts
counts_of n [] = n
counts_of n (decl ∷ decls) = counts_of (counted n decl) decls

-- the number of the next definition after these declarations
abbrev pub next_definition : List Decl → ℕ
next_definition decls = (counts_of none_yet decls).definitions

module _ (meanings : Meanings) where
  abbrev pub types_say : List Tree → List (Occurrence Name)
  types_say types = flat_map (λ t. tree_says meanings t data_place []) types

  -- an annotation of a process by these sets
  abbrev pub annotation_says : Bool → Name → List Name → List (Occurrence Name)
  annotation_says before process sets =
      Notes process before ∷ Uses process (sense_in meanings [] process) Use.Annotated
      ∷ map (λ set. Uses set (sense_in meanings [] set) (Use.Annotates (sense_in meanings [] process))) sets

module _ (meanings : Meanings) (kinds : List Kind) where
  -- what a declaration says that stands after these others
  abbrev pub decl_says : List Decl → Decl → List (Occurrence Name)
  decl_says earlier (Decl.Channel xs types) = declared_after (names_declared earlier) xs ++ types_say meanings types
  decl_says earlier (Decl.Datatype x ks) = declared_after (names_declared earlier) (x ∷ ks)
  decl_says earlier (Decl.Nametype x t) = declared_after (names_declared earlier) (x ∷ []) ++ tree_says meanings t data_place []
  decl_says earlier (Decl.Define x params t) =
      declared_after (names_declared earlier) (x ∷ []) ++ (parameters_after [] params
      ++ tree_says meanings t (body_place (slice_get kinds (next_definition earlier))) params)
  decl_says earlier (Decl.Assert t) = tree_says meanings t root_place []
  decl_says earlier (Decl.Roles names) =
      annotation_says meanings (is_among (flat_map with_roles earlier) names.process) names.process (names.creq ∷ names.cack ∷ names.sreq ∷ names.sack ∷ [])
  decl_says earlier (Decl.Resource names) =
      annotation_says meanings (is_among (flat_map with_uses earlier) names.process) names.process (names.acquire ∷ names.release ∷ [])

  -- what the bodies of definitions say that are expanded where they are used: those of data, and those without a class
  abbrev pub expanded_body : Class → List (Occurrence Name) → List (Occurrence Name)
  expanded_body Class.Process os = []
  expanded_body _ os = os

  abbrev pub bodies_from : ℕ → List Decl → List (List (Occurrence Name))
  bodies_from d [] = []
  bodies_from d (Decl.Define x params t ∷ decls) =
      expanded_body (kind_class (slice_get kinds d)) (tree_says meanings t (body_place (slice_get kinds d)) params) ∷ bodies_from (d + 1) decls
  bodies_from d (Decl.Nametype x t ∷ decls) = tree_says meanings t data_place [] ∷ bodies_from (d + 1) decls
  bodies_from d (Decl.Datatype x ks ∷ decls) = [] ∷ bodies_from (d + 1) decls
  bodies_from d (_ ∷ decls) = bodies_from d decls

-- the first that is there
abbrev pub first_there : {A : Type 0} → List (Option A) → Option A
first_there [] = None
first_there (Some a ∷ rest) = Some a
first_there (None ∷ rest) = first_there rest

-- the first name that a test of occurrences finds
abbrev pub first_name : (Occurrence Name → Option Name) → List (Occurrence Name) → Option Name
first_name test os = first_there (map test os)

abbrev pub when_any : Bool → ResolveFault → Option ResolveFault
when_any b f = if b then Some f else None

-- a definition of data is deeper than may be with all of its uses expanded, or without an end: with one use more entered one inside another it is too deep
-- in either case
abbrev pub is_deep : List Kind → List (List (Occurrence Name)) → ℕ → Bool
is_deep kinds bodies d = nat_lt MOST_DATA_DEPTH (depth_within (MOST_DATA_DEPTH + 1) bodies d)

abbrev pub is_data : Class → Bool
is_data Class.Data = true
is_data _ = false

-- whether a declaration is the definition of data with the number d, and too deep
abbrev pub too_deep : List Kind → List (List (Occurrence Name)) → ℕ → Decl → Bool
too_deep kinds bodies d (Decl.Define x params t) = is_data (kind_class (slice_get kinds d)) && is_deep kinds bodies d
too_deep kinds bodies d (Decl.Nametype x t) = is_deep kinds bodies d
too_deep kinds bodies d _ = false

-- the fault of the declaration with the number i that says this
module _ (meanings : Meanings) (kinds : List Kind) where
  abbrev pub fault_of : ℕ → List (Occurrence Name) → Bool → Option ResolveFault
  fault_of i os deep = first_there (
      option_map (λ x. ResolveFault.Unknown i x) (first_name unknown_name os)
      ∷ option_map (λ x. ResolveFault.Twice i x) (first_name (repeated_name meanings) os)
      ∷ when_any (list_any (is_wrong_kind kinds) os) (ResolveFault.WrongKind i)
      ∷ option_map (λ x. ResolveFault.WrongCount i x) (first_name wrong_count os)
      ∷ when_any (list_any (is_inside kinds) os) (ResolveFault.ParallelInside i)
      ∷ when_any deep (ResolveFault.DataDepth i)
      ∷ [])

module _ (script : List Decl) (kinds : List Kind) where
  -- the fault of a declaration that stands after these others
  abbrev pub fault_in : List Decl → Decl → Option ResolveFault
  fault_in earlier d =
      fault_of (meanings_of script) kinds (length earlier) (decl_says (meanings_of script) kinds earlier d)
      (too_deep kinds (bodies_from (meanings_of script) kinds 0 script) (next_definition earlier) d)

  -- the first fault of declarations that stand after these others
  abbrev pub first_fault : List Decl → List Decl → Option ResolveFault
  first_fault earlier [] = None
  first_fault earlier (d ∷ rest) = first_there (fault_in earlier d ∷ first_fault (earlier ++ d ∷ []) rest ∷ [])

  abbrev pub name_fault : Option ResolveFault
  name_fault = first_fault [] script
