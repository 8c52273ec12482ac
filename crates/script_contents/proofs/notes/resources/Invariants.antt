use Rattle.script_contents.proofs.Prelude.{◌≡◌, take, flat_map, resources_in, first_of}
use Rattle.script_contents.proofs.notes.resources.Given as goal

abbrev pub invariant-loop-decl : goal.invariant-loop-decl
invariant-loop-decl l = l.made ≡ flat_map (resources_in (first_of l.names)) (take l.decl-index l.decls)
