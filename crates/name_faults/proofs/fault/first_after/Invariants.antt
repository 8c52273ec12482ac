use Rattle.name_faults.proofs.Prelude.{◌≡◌, [], drop, take, IsKnown, fault_from}
use Rattle.name_faults.proofs.fault.first_after.Given as goal

abbrev pub invariant-loop-decl : goal.invariant-loop-decl
invariant-loop-decl l = record {
  names : l.walk.names ≡ l.meanings.names.now;
  known : IsKnown (take l.decl-index l.decls) l.known;
  so_far : fault_from l.decls l.meanings.kinds.now (take l.decl-index l.decls) (drop l.decl-index l.decls) ≡ fault_from l.decls l.meanings.kinds.now [] l.decls;
}
