-- What other libraries give, under one name for the files here.
pub use Rattle.csp_atoms.specs.declared.atom.Atom.{Atom}
pub use Rattle.csp_base.proofs.Lists.{drop_read}
pub use Rattle.csp_program.specs.declared.expressions.Expr.{Expr}
pub use Rattle.csp_program.specs.declared.programs.Content.{Content}
pub use Rattle.csp_resolve.specs.Answers.{Answers, Grows, GrowsBy, sets_of, types_read}
pub use Rattle.csp_text.specs.declared.script.Decl.{Decl}
pub use Rattle.csp_text.specs.declared.tree.Tree.{Tree}
pub use Rattle.dl_limits.specs.declared.TheConstants.{MOST_BYTES}
pub use Rattle.event_tables.specs.Spread.{spread}
pub use Rattle.event_tables.specs.declared.sets.SharedSets.{SharedSets}
pub use Rattle.script_names.specs.Prelude.{Answer, AreKinds, Counts, Entities, IsProgram, Meanings, Name, Resolves, and_next, channel_sets, channels_of, constants_of, counted, declared, defined, definitions_from, field_sets, first_assertion, first_of, meanings_of, name_fault, none_yet, plain_content, resolved, told_in, with_names, with_root, with_table}
pub use Rattle.script_names.specs.declared.fault.ResolveFault.{ResolveFault}
pub use Rattle.script_names.specs.declared.kinds.Kind.{Kind}
pub use Rattle.script_sizes.specs.Size.{declaration_size, size}
pub use Rattle.std.proofs.Common.{IsTrue, List, [], ap, append_assoc, arith, drop, get_or, length, length-append, map, refl, replicate, subst, sym, ℕ, ◌++◌, ◌+◌, ◌<◌, ◌^◌, ◌∙◌, ◌∷◌, ◌≡◌, ◌≤◌}
pub use Rattle.std.specs.Prelude.{Err, None, Ok, Result, Some, Vec}
pub use Rattle.std.specs.declared.alloc.Global.{Global}
