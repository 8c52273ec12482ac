-- What proofs of this crate cite of elsewhere, under one name.
pub use Rattle.csp_base.specs.Prelude.{greatest}
pub use Rattle.csp_base.specs.declared.stop.Stop.{Stop}
pub use Rattle.csp_grammar.specs.Prelude.{Reading, and_then, case, event_tree, skip, with_first}
pub use Rattle.csp_text.specs.Prelude.{capped, event_depth, event_layer_depth, field_depth, field_layer_depth, gen_depth, gen_layer_depth, greatest_of_pairs, part_depth, part_layer_depth, tree_depth, tree_layer_depth}
pub use Rattle.csp_text.specs.declared.tree.EventTree.{EventTree}
pub use Rattle.csp_text.specs.declared.tree.FieldTree.{FieldTree}
pub use Rattle.csp_text.specs.declared.tree.FieldTree.TheOpen.{FieldTree-F}
pub use Rattle.csp_text.specs.declared.tree.GenTree.{GenTree}
pub use Rattle.csp_text.specs.declared.tree.PartTree.{PartTree}
pub use Rattle.csp_text.specs.declared.token.Symbol.{Symbol}
pub use Rattle.csp_text.specs.declared.token.Token.{Token}
pub use Rattle.csp_text.specs.declared.tree.Tree.{Tree}
pub use Rattle.csp_text.specs.declared.tree.FieldTree.TheFolds.{fold_out-FieldTree, map-FieldTree}
pub use Rattle.csp_text.specs.declared.tree.FieldTree.TheViews.{out-FieldTree}
pub use Rattle.std.proofs.Common.{Bool, Err, List, None, Ok, Option, Some, [], ap, append_assoc, arith, false, if◌then◌else◌, length, map, max, refl, subst, suc, sym, true, zero, ℕ, ◌*◌, ◌++◌, ◌+◌, ◌-◌, ◌<◌, ◌∙◌, ◌∷◌, ◌≡◌, ◌≤◌}
pub use Rattle.std.specs.Prelude.{Result}
pub use Rattle.std.specs.Vec.Iter.{into_iter_items, into_iter_len}
pub use Rattle.tree_parser.specs.Reads.{Reads, next_field, read_operand, read_operands}
pub use Rattle.tree_reading.proofs.DotFields.{dot_is, dots_with}
pub use Rattle.tree_reading.proofs.NodeDepths.{depth-event, of_field, of_tree}
pub use Rattle.tree_reading.specs.Prelude.{Found, Limited, at_least, chain_symbol, dot_field, dot_fields, last_item, next_limited, of_process, read_atom, read_expression, read_field, read_gen, read_hidings, read_item, read_operators, read_pair, read_part, read_prefix, read_sequence, read_tree, sure}
pub use Rattle.tree_reading.specs.declared.read.Binding.{Binding}
pub use Rattle.tree_reading.specs.declared.look.Chain.{Chain}
pub use Rattle.tree_reading.specs.declared.limits.Limits.{Limits}
pub use Rattle.tree_reading.specs.declared.fault.NoText.{NoText}
unfoldable pub use Rattle.tree_reading.specs.Prelude.{limited}
pub use Rattle.tree_reading.specs.Starts.{layer_dot}
