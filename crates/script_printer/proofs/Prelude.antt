-- What the proofs of this crate cite of the crates below, and of its own definitions.
pub use Rattle.csp_base.proofs.Standard.{append-nil, drop-cons, drop_of_length-le, false≢true, nil_from_length}
pub use Rattle.csp_text.specs.declared.tree.EventTree.{EventTree}
pub use Rattle.csp_text.specs.declared.tree.FieldTree.{FieldTree}
pub use Rattle.csp_text.specs.declared.tree.FieldTree.TheOpen.{FieldTree-F, GenTree-F, Tree-F}
pub use Rattle.csp_text.specs.declared.tree.GenTree.{GenTree}
pub use Rattle.csp_text.specs.declared.tree.PartTree.{PartTree}
pub use Rattle.csp_text.specs.declared.tree.FieldTree.TheFolds.{fold-roll-EventTree, fold-roll-FieldTree, fold-roll-GenTree, fold-roll-PartTree, fold-roll-Tree, map-FieldTree, map-GenTree, map-Tree}
pub use Rattle.csp_text.specs.declared.tree.FieldTree.TheViews.{out-EventTree, out-PartTree, out-Tree, roll-FieldTree, roll-GenTree, roll-Tree, roll-out-EventTree, roll-out-PartTree, roll-out-Tree}
pub use Rattle.csp_text.specs.declared.token.Symbol.TheVariants.{Bang, Bar, CloseBrace, CloseParen, CloseProduct, CloseRename, Colon, Comma, Dot, ExternalChoice, InternalChoice, LeftArrow, OpenBrace, OpenParen, OpenProduct, OpenRename, Question}
pub use Rattle.csp_text.specs.declared.token.Token.TheVariants.{Name, Symbol}
pub use Rattle.csp_text.specs.declared.token.Token.{Token}
pub use Rattle.csp_text.specs.declared.tree.Tree.{Tree}
pub use Rattle.script_printer.specs.PrintedScript.{decl_tokens}
unfoldable pub use Rattle.script_printer.specs.PrintedScript.{names_tokens, parameters_tokens, types_tokens}
pub use Rattle.script_printer.specs.PrintedTree.{Printed, atom, bound_in, compound, conditions, dotted, event_layer_printed, field_layer_printed, form, form_tokens, gen_layer_printed, item, operand, pair_tokens, part_layer_printed, separated, tree_layer_printed}
unfoldable pub use Rattle.script_printer.specs.PrintedTree.{event_tokens, field_tokens, gen_tokens, item_tokens, operand_tokens, part_tokens, printed, printed_tokens, renamed_tokens, shape_of}
pub use Rattle.script_printer.specs.TokenText.{before_place, line, token_text}
unfoldable pub use Rattle.script_printer.specs.TokenText.{row, spaced}
pub use Rattle.script_printer.specs.declared.shape.Shape.TheVariants.{Dotted}
pub use Rattle.std.proofs.Common.{Err, List, None, Ok, OnOk, Result, Some, [], add-one, ap, append_assoc, arith, drop, eqb-true, false, get_or, length, map, max, refl, subst, suc, sym, true, zero, ℕ, ◌%◌, ◌*◌, ◌++◌, ◌+◌, ◌/◌, ◌<◌, ◌^◌, ◌∙◌, ◌∷◌, ◌≡◌, ◌≤◌}
pub use Rattle.std.proofs.lemmas.Fmt.{decimal_step}
pub use Rattle.std.proofs.lemmas.List.Concat.{flat_map-append}
pub use Rattle.std.proofs.lemmas.List.Folds.{flat_map-map}
pub use Rattle.std.specs.Prelude.{codes, decimal, flat_map, ◌==◌}
