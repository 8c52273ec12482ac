use Rattle.name_tables.proofs.Prelude.{◌≡◌, ◌++◌, drop, flat_map, body_ends, first_of, rows}
use Rattle.name_tables.proofs.ends.add_bodies.Given as goal

abbrev pub invariant-loop-decl : goal.invariant-loop-decl
invariant-loop-decl l = rows l.all.items ++ flat_map (body_ends (first_of l.names)) (drop l.decl-index l.decls) ≡ rows l.initial.all.items ++ flat_map (body_ends (first_of l.names)) l.decls
