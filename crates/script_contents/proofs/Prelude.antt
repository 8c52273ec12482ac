-- What other libraries give, under one name for the files here.
pub use Rattle.csp_base.proofs.Lists.{drop_read}
pub use Rattle.csp_base.proofs.Standard.{append-nil, drop_of_length-le, fun_ext}
pub use Rattle.csp_program.specs.declared.programs.Content.{Content}
pub use Rattle.csp_program.specs.declared.programs.Def.{Def}
pub use Rattle.csp_program.specs.declared.programs.ResourceNote.{ResourceNote}
pub use Rattle.csp_program.specs.declared.programs.RolesNote.{RolesNote}
pub use Rattle.csp_text.specs.declared.script.Decl.{Decl}
pub use Rattle.csp_text.specs.declared.tree.Tree.{Tree}
pub use Rattle.dl_limits.specs.declared.TheConstants.{MOST_BYTES}
pub use Rattle.name_tables.proofs.DeclaredLemmas.{flat_end, flat_step}
pub use Rattle.name_tables.proofs.NameLemmas.{same_meanings}
pub use Rattle.name_tables.proofs.SizeLaws.{few_here, few_left, size_at}
pub use Rattle.name_tables.specs.Counted.{counts, total}
pub use Rattle.name_tables.specs.Prelude.{SameFirsts}
pub use Rattle.name_tables.specs.declared.meanings.Meanings.{Meanings}
pub use Rattle.script_contents.specs.Plain.{body_at, body_under, channels_by, constants_in, definitions_by, plain_channel, read_by, resources_in, roles_in}
pub use Rattle.script_names.specs.Prelude.{Counts, Entities, Name, Scope, body_of, channels_of, constants_of, counted, declared, defined, definitions_from, first_assertion, first_of, kind_class, kind_network, meanings_of, none_yet, numbers_from, parameters, plain_content, reading, resources_of, roles_of, root_of}
pub use Rattle.script_names.specs.declared.kinds.Kind.{Kind}
pub use Rattle.script_sizes.specs.BindingTokens.{tokens}
pub use Rattle.script_sizes.specs.Size.{declaration_size, size}
pub use Rattle.std.proofs.Common.{IfOk, List, [], ap, append_assoc, arith, drop, get_or, length, map, refl, subst, suc, sym, take, ℕ, ◌++◌, ◌+◌, ◌-◌, ◌<◌, ◌∙◌, ◌∷◌, ◌≡◌, ◌≤◌}
pub use Rattle.std.specs.List.{flat_map}
pub use Rattle.std.specs.Prelude.{Some, slice_get}
pub use Rattle.typed_trees.specs.Prelude.{standing}
pub use Rattle.typed_trees.specs.Walked.{Walked}
