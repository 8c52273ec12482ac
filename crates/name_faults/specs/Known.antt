-- What is known of the declarations that were passed, and what a declaration says after them. It serves the contracts of this crate.
use Rattle.std.specs.Prelude.{◌≡◌, ◌&&◌, ◌∷◌, ◌++◌, ℕ, Bool, false, nat_lt, Option, List, [], length, slice_get, slice_index}
use Rattle.std.specs.List.{flat_map}
use Rattle.csp_text.specs.declared.script.Decl.{Decl}
use Rattle.script_names.specs.Prelude.{kind_class, Name, Meanings, is_among, tree_says, annotation_says, body_place, data_place, declared_after, fault_of, first_fault, is_data, names_declared, next_definition, parameters_after, root_place, types_say, with_roles, with_uses}
use Rattle.script_names.specs.declared.occurrence.Occurrence.{Occurrence}
use Rattle.dl_limits.specs.declared.TheConstants.{MOST_DATA_DEPTH}
use Rattle.csp_text.specs.declared.token.ResourceNames.{ResourceNames}
use Rattle.csp_text.specs.declared.token.RolesNames.{RolesNames}
use Rattle.script_names.specs.declared.fault.ResolveFault.{ResolveFault}
use Rattle.script_names.specs.declared.kinds.Kind.{Kind}
use Rattle.name_tables.specs.Firsts.{SameNames}
use Rattle.name_faults.specs.declared.known.Known.{Known}

abbrev pub nothing_known : Known
nothing_known = record { declarations = 0; definitions = 0; declared = []; roles = []; uses = [] }

-- how many definitions a declaration makes
abbrev pub defines : Decl → ℕ
defines (Decl.Define x params t) = 1
defines (Decl.Nametype x t) = 1
defines (Decl.Datatype x ks) = 1
defines _ = 0

-- the names that it declares
abbrev pub names_in : Decl → List Name
names_in (Decl.Channel xs types) = xs
names_in (Decl.Datatype x ks) = x ∷ ks
names_in (Decl.Nametype x t) = x ∷ []
names_in (Decl.Define x params t) = x ∷ []
names_in _ = []

-- this is known of these declarations
pub record IsKnown (earlier : List Decl) (k : Known) : Type 0 where
  pub declarations : k.declarations ≡ length earlier
  pub definitions : k.definitions ≡ next_definition earlier
  pub declared : SameNames k.declared (names_declared earlier)
  pub roles : SameNames k.roles (flat_map with_roles earlier)
  pub uses : SameNames k.uses (flat_map with_uses earlier)

-- the names of a declaration are known besides
pub record IsNext (k : Known) (d : Decl) (new : Known) : Type 0 where
  pub declarations : new.declarations ≡ k.declarations
  pub definitions : new.definitions ≡ k.definitions
  pub declared : SameNames new.declared (k.declared ++ names_in d)
  pub roles : SameNames new.roles (k.roles ++ with_roles d)
  pub uses : SameNames new.uses (k.uses ++ with_uses d)

module _ (meanings : Meanings) where
  -- what an annotation of roles says, after those of these processes
  abbrev pub roles_said : List Name → RolesNames → List (Occurrence Name)
  roles_said before names =
      annotation_says meanings (is_among before names.process) names.process (names.creq ∷ names.cack ∷ names.sreq ∷ names.sack ∷ [])

  -- and one of a resource
  abbrev pub resource_said : List Name → ResourceNames → List (Occurrence Name)
  resource_said before names = annotation_says meanings (is_among before names.process) names.process (names.acquire ∷ names.release ∷ [])

module _ (meanings : Meanings) (kinds : List Kind) where
  -- what a declaration says after those that are known
  abbrev pub says_after : Known → Decl → List (Occurrence Name)
  says_after k (Decl.Channel xs types) = declared_after k.declared xs ++ types_say meanings types
  says_after k (Decl.Datatype x ks) = declared_after k.declared (x ∷ ks)
  says_after k (Decl.Nametype x t) = declared_after k.declared (x ∷ []) ++ tree_says meanings t data_place []
  says_after k (Decl.Define x params t) =
      declared_after k.declared (x ∷ []) ++ (parameters_after [] params ++ tree_says meanings t (body_place (slice_get kinds k.definitions)) params)
  says_after k (Decl.Assert t) = tree_says meanings t root_place []
  says_after k (Decl.Roles names) = roles_said meanings k.roles names
  says_after k (Decl.Resource names) = resource_said meanings k.uses names

-- whether a declaration is a definition of data with the number n that is over MOST_DATA_DEPTH deep
abbrev pub deep_at : List Kind → List ℕ → ℕ → Decl → Bool
deep_at kinds depths n (Decl.Define x params t) = is_data (kind_class (slice_get kinds n)) && nat_lt MOST_DATA_DEPTH (slice_index depths n)
deep_at kinds depths n (Decl.Nametype x t) = nat_lt MOST_DATA_DEPTH (slice_index depths n)
deep_at kinds depths n _ = false

-- the fault of a declaration after those that are known
abbrev pub fault_after : Meanings → List Kind → List ℕ → Known → Decl → Option ResolveFault
fault_after meanings kinds depths k d =
    fault_of meanings kinds k.declarations (says_after meanings kinds k d) (deep_at kinds depths k.definitions d)

-- the first fault of the declarations of a script from some on
unfoldable pub fault_from : List Decl → List Kind → List Decl → List Decl → Option ResolveFault
fault_from script kinds earlier rest = first_fault script kinds earlier rest
