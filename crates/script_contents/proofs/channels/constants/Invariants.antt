use Rattle.script_contents.proofs.Prelude.{◌≡◌, take, flat_map, constants_in}
use Rattle.script_contents.proofs.channels.constants.Given as goal

abbrev pub invariant-loop-decl : goal.invariant-loop-decl
invariant-loop-decl l = l.made ≡ flat_map constants_in (take l.decl-index l.decls)
