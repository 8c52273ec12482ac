-- What a script's declarations put into its program, while its channels have no field sets yet.
use Rattle.std.specs.Prelude.{◌∷◌, ◌++◌, if◌then◌else◌}
use Rattle.script_names.specs.Sources.{ℕ, Bool, Option, Some, None, List, [], length, map, slice_get, flat_map, Decl, Tree, Net, Body, Channel, Content, Def, Class, Kind}
use Rattle.csp_program.specs.declared.programs.ResourceNote.{ResourceNote}
use Rattle.csp_program.specs.declared.programs.RolesNote.{RolesNote}
use Rattle.csp_program.specs.declared.networks.Net.TheVariants as net
use Rattle.csp_program.specs.declared.processes.Proc.TheVariants as proc
use Rattle.script_names.specs.Faults.{kind_class, kind_network}
use Rattle.script_names.specs.Names.{Name, Meanings, Counts, counted, none_yet, meanings_of}
use Rattle.script_names.specs.Scopes.{Scope}
use Rattle.script_names.specs.Typed.{Reading, exprs, reading, definition_number}
pub use Rattle.script_names.specs.Scopes.{numbers_from, parameters}

-- the first name that is asserted
abbrev pub first_assertion : List Decl → Option Tree
first_assertion [] = None
first_assertion (Decl.Assert t ∷ decls) = Some t
first_assertion (_ ∷ decls) = first_assertion decls

module _ (meanings : Meanings) (kinds : List Kind) where
  abbrev pub channels_of : Decl → List Channel
  channels_of (Decl.Channel xs types) =
      map (λ x. record { name = x; types = exprs (map (reading meanings kinds) types) [] 0; fields = None; first = 0 }) xs
  channels_of _ = []

  abbrev pub constants_of : Decl → List Name
  constants_of (Decl.Datatype x ks) = ks
  constants_of _ = []

  -- the body of a definition of this class, and whether it is a network definition
  abbrev pub body_of : Class → Bool → Reading → ℕ → Scope → Body
  body_of Class.Data network r n scope = Body.Datum (r.expr scope n)
  body_of _ network r n scope = if network then Body.Network (r.net scope n) else Body.Process (r.proc scope n)

  -- what a declaration defines, after so many of each kind
  abbrev pub defined : Counts → Decl → List Def
  defined n (Decl.Define x params t) = record {
    name = x;
    params = numbers_from 0 (length params);
    body = body_of (kind_class (slice_get kinds n.definitions)) (kind_network (slice_get kinds n.definitions))
        (reading meanings kinds t) (length params) (parameters 0 params);
  } ∷ []
  defined n (Decl.Nametype x t) = record { name = x; params = []; body = Body.Nametype ((reading meanings kinds t).expr [] 0) } ∷ []
  defined n (Decl.Datatype x ks) = record { name = x; params = []; body = Body.Datatype (numbers_from n.constants (length ks)) } ∷ []
  defined n _ = []

  abbrev pub definitions_from : Counts → List Decl → List Def
  definitions_from n [] = []
  definitions_from n (d ∷ decls) = defined n d ++ definitions_from (counted n d) decls

  -- the number of the definition of this name
  abbrev pub defined_by : Name → ℕ
  defined_by x = definition_number (meanings x)

  abbrev pub roles_of : Decl → List RolesNote
  roles_of (Decl.Roles names) = record {
    process = defined_by names.process;
    creq = defined_by names.creq;
    cack = defined_by names.cack;
    sreq = defined_by names.sreq;
    sack = defined_by names.sack;
  } ∷ []
  roles_of _ = []

  abbrev pub resources_of : Decl → List ResourceNote
  resources_of (Decl.Resource names) = record {
    process = defined_by names.process;
    acquire = defined_by names.acquire;
    release = defined_by names.release;
  } ∷ []
  resources_of _ = []

  -- the network that is asserted
  abbrev pub root_of : Option Tree → Net
  root_of None = net.Leaf proc.Stop
  root_of (Some t) = (reading meanings kinds t).net [] 0

-- all of it
abbrev pub plain_content : List Decl → List Kind → Content
plain_content decls kinds = record {
  events = [];
  channels = flat_map (channels_of (meanings_of decls) kinds) decls;
  consts = flat_map (constants_of (meanings_of decls) kinds) decls;
  defs = definitions_from (meanings_of decls) kinds none_yet decls;
  roles = flat_map (roles_of (meanings_of decls) kinds) decls;
  resources = flat_map (resources_of (meanings_of decls) kinds) decls;
  root = root_of (meanings_of decls) kinds (first_assertion decls);
}
