use Rattle.name_faults.proofs.Prelude.{◌≡◌, ◌++◌, drop, length, bodies_after}
use Rattle.name_faults.proofs.bodies.bodies_of.Given as goal

abbrev pub invariant-loop-decl : goal.invariant-loop-decl
invariant-loop-decl l = record {
  bodies : l.bodies ++ bodies_after l.meanings (length l.bodies) (drop l.decl-index l.decls) ≡ bodies_after l.meanings 0 l.decls;
  names : l.walk.names ≡ l.meanings.names.now;
}
