use Rattle.script_contents.proofs.Prelude.{◌≡◌, ◌++◌, drop, flat_map, channels_by}
use Rattle.script_contents.proofs.channels.channels.Given as goal

abbrev pub invariant-loop-decl : goal.invariant-loop-decl
invariant-loop-decl l = l.made ++ flat_map (channels_by l.meanings) (drop l.decl-index l.decls) ≡ flat_map (channels_by l.meanings) l.decls
