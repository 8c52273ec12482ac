-- Parts of what a script's declarations put into its program. Only the private contracts of this crate cite them.
use Rattle.std.specs.Prelude.{ℕ, Bool, if◌then◌else◌, None, List, [], length, slice_get}
use Rattle.csp_text.specs.declared.script.Decl.{Decl}
use Rattle.csp_text.specs.declared.tree.Tree.{Tree}
use Rattle.csp_program.specs.declared.expressions.Expr.{Expr}
use Rattle.csp_program.specs.declared.programs.Body.{Body}
use Rattle.csp_program.specs.declared.programs.Channel.{Channel}
use Rattle.csp_program.specs.declared.programs.Def.{Def}
use Rattle.csp_program.specs.declared.programs.ResourceNote.{ResourceNote}
use Rattle.csp_program.specs.declared.programs.RolesNote.{RolesNote}
use Rattle.script_names.specs.Prelude.{body_of, channels_of, constants_of, defined, definitions_from, numbers_from, parameters, resources_of, roles_of, kind_class, kind_network, Counts, Name, first_of, Reading, reading}
use Rattle.script_names.specs.declared.kinds.Kind.{Kind}
use Rattle.script_names.specs.Names as names
use Rattle.name_tables.specs.declared.meanings.Meanings.{Meanings}
use Rattle.typed_trees.specs.Walked.{Walked, read_at}

-- a channel that has no field sets yet
abbrev pub plain_channel : Name → List Expr → Channel
plain_channel x types = record { name = x; types = types; fields = None; first = 0 }

-- the constants that a declaration declares, whatever names mean
abbrev pub constants_in : Decl → List Name
constants_in d = constants_of (λ x. None) [] d

-- what a tree is, by what names mean
abbrev pub read_by : Meanings → Tree → Reading
read_by m t = reading (first_of m.names.now) m.kinds.now t

-- the channels of a declaration, what it defines after so many of each kind, and what all of them define
abbrev pub channels_by : Meanings → Decl → List Channel
channels_by m d = channels_of (first_of m.names.now) m.kinds.now d

abbrev pub defined_by : Meanings → Counts → Decl → List Def
defined_by m n d = defined (first_of m.names.now) m.kinds.now n d

abbrev pub definitions_by : Meanings → Counts → List Decl → List Def
definitions_by m n decls = definitions_from (first_of m.names.now) m.kinds.now n decls

-- a tree as the body of a definition of this kind, where a walk stands, and as that of a process or of a network definition
abbrev pub body_at : Walked → Kind → Tree → Body
body_at w kind t = body_of (first_of w.names) w.kinds kind.class kind.network (read_at w t) w.next w.scope

abbrev pub process_at : Walked → Bool → Tree → Body
process_at w network t =
    if network then Body.Network ((read_at w t).net w.scope w.next) else Body.Process ((read_at w t).proc w.scope w.next)

-- the body of the definition with the number d, and the definition
abbrev pub body_under : Meanings → ℕ → List Name → Tree → Body
body_under m d params t = body_of (first_of m.names.now) m.kinds.now
    (kind_class (slice_get m.kinds.now d)) (kind_network (slice_get m.kinds.now d))
    (read_by m t) (length params) (parameters 0 params)

abbrev pub definition_at : Meanings → ℕ → Name → List Name → Tree → Def
definition_at m d x params t = record { name = x; params = numbers_from 0 (length params); body = body_under m d params t }

-- a nametype
abbrev pub nametype_of : Meanings → Name → Tree → Def
nametype_of m x t = record { name = x; params = []; body = Body.Nametype ((read_by m t).expr [] 0) }

-- a datatype of so many constants
abbrev pub datatype_of : Name → ℕ → ℕ → Def
datatype_of x first count = record { name = x; params = []; body = Body.Datatype (numbers_from first count) }

-- the annotations of a declaration, whatever definitions are
abbrev pub roles_in : names.Meanings → Decl → List RolesNote
roles_in meanings d = roles_of meanings [] d

abbrev pub resources_in : names.Meanings → Decl → List ResourceNote
resources_in meanings d = resources_of meanings [] d
