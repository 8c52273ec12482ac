use Rattle.csp_resolve.proofs.Prelude.{◌≡◌, ◌+◌, ◌≤◌, drop, types_read, MOST_BYTES, spread, first_of, size}
use Rattle.csp_resolve.proofs.SetsLaws.{sets_with}
use Rattle.script_names.specs.Resolved as meant
use Rattle.csp_resolve.proofs.events.channel_sets.Given as goal

abbrev pub invariant-loop-decl : goal.invariant-loop-decl
invariant-loop-decl l = record {
  so_far : meant.channel_sets l.content (types_read (first_of l.meanings.names.now) l.meanings.kinds.now) 0 l.decls
      ≡ sets_with (spread l.shared.items) (meant.channel_sets l.content (types_read (first_of l.meanings.names.now) l.meanings.kinds.now) l.i (drop l.decl-index l.decls));
  few : l.i + size (drop l.decl-index l.decls) ≤ MOST_BYTES;
}
