-- What other libraries give, under one name for the files here.
pub use Rattle.csp_base.proofs.Standard.{length-take, take-append_seam, take-length, take-take}
pub use Rattle.csp_base.specs.Prelude.{total}
pub use Rattle.csp_base.specs.declared.operators.BinOp.{BinOp}
pub use Rattle.csp_base.specs.declared.operators.SetOp.{SetOp}
pub use Rattle.csp_program.specs.declared.networks.Net.{Net}
pub use Rattle.csp_program.specs.declared.expressions.Expr.TheViews.{roll-EventPart}
pub use Rattle.csp_program.specs.declared.expressions.Gen.{Gen}
pub use Rattle.csp_program.specs.declared.processes.Field.{Field}
pub use Rattle.csp_text.specs.declared.tree.Tree.{the_lemmas, Tree}
pub use Rattle.csp_text.specs.declared.tree.EventTree.{EventTree}
pub use Rattle.csp_text.specs.declared.tree.FieldTree.TheFolds.{fold-EventTree, fold-roll-EventTree, fold-roll-FieldTree, fold-roll-GenTree, fold-roll-PartTree, fold-roll-Tree, ind-FieldTree, ind-GenTree, ind-PartTree, ind-Tree, map-EventTree, map-FieldTree, map-GenTree, map-PartTree, map-Tree}
pub use Rattle.csp_text.specs.declared.tree.FieldTree.TheOpen.{EventTree-F, FieldTree-F, GenTree-F, PartTree-F, Tree-F}
pub use Rattle.csp_text.specs.declared.tree.FieldTree.TheViews.{out-EventTree, out-FieldTree, out-GenTree, out-PartTree, out-Tree, roll-EventTree, roll-FieldTree, roll-GenTree, roll-PartTree, roll-Tree, roll-out-FieldTree, roll-out-GenTree, roll-out-Tree}
pub use Rattle.csp_text.specs.declared.tree.FieldTree.{FieldTree}
pub use Rattle.csp_text.specs.declared.tree.GenTree.{GenTree}
pub use Rattle.csp_text.specs.declared.tree.PartTree.{PartTree}
pub use Rattle.script_names.specs.Prelude.{Binding, Entities, Front, Name, Reading, all_bind, bindings, bindings_bind, binds_of_layer, channel_number, definition_number, event_of_layer, expr_of_layer, exprs, field_of_layer, first_of, gen_of_layer, head_of, is_network, named, names_of, network_of_layer, networked_of_layer, number_of, pairs_bind, part_of_layer, parts_bind, proc_of_layer, procs, reading, reading_of_layer, sense_in, under, with}
pub use Rattle.script_names.specs.Typed.{Scope}
pub use Rattle.script_names.specs.declared.kinds.Kind.{Kind}
pub use Rattle.script_sizes.proofs.TokenForms.{event_counts, field_counts, gen_counts, part_counts, tree_counts}
pub use Rattle.script_sizes.specs.BindingTokens.{all_tokens, event_tokens, field_tokens, field_tokens_of_layer, fields_tokens, gen_tokens, gen_tokens_of_layer, gens_tokens, pairs_tokens, part_tokens, parts_tokens, tokens, tokens_of_layer, total_of_pairs}
pub use Rattle.std.proofs.Common.{List, None, Option, Some, [], ap, arith, cond, drop, false, length, map, max, min, pos, refl, rules, subst, sym, take, true, ℕ, ◌*◌, ◌++◌, ◌+◌, ◌||◌, ◌∙◌, ◌∷◌, ◌≡◌, ◌≤◌}
pub use Rattle.std.proofs.lemmas.List.{take_all}
pub use Rattle.typed_trees.specs.Walked.{Walked, past, read_at}
pub use Rattle.typed_trees.specs.Words.{after_field, after_fields, after_gen, bound, exprs_at, field_read, fields_at, fields_scope, gen_read, gens_at, gens_scope, pairs_at, part_read, parts_at, procs_at, set_at, under_gens}
unfoldable pub use Rattle.typed_trees.specs.Words.{field_scope, gen_scope, net_at}
unfoldable pub use Rattle.typed_trees.specs.Words.{expr_at, field_at, gen_at, networked_at, part_at, proc_at}
