use Rattle.name_tables.proofs.Prelude.{◌+◌, ◌≤◌, ◌++◌, drop, MOST_BYTES, declared, declared_from, size, counts, total, SameFirsts}
use Rattle.name_tables.proofs.declared.declare_all.Given as goal

abbrev pub invariant-loop-decl : goal.invariant-loop-decl
invariant-loop-decl l = record {
  names : SameFirsts (l.names ++ declared_from (counts l.numbers) (drop l.decl-index l.decls)) (l.initial.names ++ declared l.decls);
  few : total (counts l.numbers) + size (drop l.decl-index l.decls) ≤ MOST_BYTES;
}
