use Rattle.script_contents.proofs.Prelude.{◌≡◌, ◌+◌, ◌≤◌, ◌++◌, drop, MOST_BYTES, counts, total, definitions_by, none_yet, size}
use Rattle.script_contents.proofs.definitions.definitions.Given as goal

abbrev pub invariant-loop-decl : goal.invariant-loop-decl
invariant-loop-decl l = record {
  made : l.made ++ definitions_by l.meanings (counts l.numbers) (drop l.decl-index l.decls) ≡ definitions_by l.meanings none_yet l.decls;
  few : total (counts l.numbers) + size (drop l.decl-index l.decls) ≤ MOST_BYTES;
}
