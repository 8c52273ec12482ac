-- No name is declared twice, and no process is annotated twice by one kind of annotation.
use Rattle.std.specs.Prelude.{◌∷◌}
use Rattle.script_names.specs.Sources.{List, [], flat_map, EachOnce, Decl}
use Rattle.script_names.specs.Names.{Name, names_declared}

-- the processes with an annotation of roles, and those with one of a resource
abbrev pub with_roles : Decl → List Name
with_roles (Decl.Roles names) = names.process ∷ []
with_roles _ = []

abbrev pub with_uses : Decl → List Name
with_uses (Decl.Resource names) = names.process ∷ []
with_uses _ = []

pub record AreOnce (decls : List Decl) : Type 0 where
  pub names : EachOnce (names_declared decls)
  pub roles : EachOnce (flat_map with_roles decls)
  pub resources : EachOnce (flat_map with_uses decls)
