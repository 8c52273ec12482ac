-- What proofs of this crate cite of elsewhere, under one name.
pub use Rattle.csp_base.specs.declared.operators.BinOp.{BinOp}
pub use Rattle.csp_base.specs.declared.operators.SetOp.{SetOp}
pub use Rattle.csp_text.specs.declared.tree.EventTree.{EventTree}
pub use Rattle.csp_text.specs.declared.tree.FieldTree.TheOpen.{EventTree-F, FieldTree-F, GenTree-F, PartTree-F, Tree-F}
pub use Rattle.csp_text.specs.declared.tree.FieldTree.{FieldTree}
pub use Rattle.csp_text.specs.declared.tree.GenTree.{GenTree}
pub use Rattle.csp_text.specs.declared.tree.PartTree.{PartTree}
pub use Rattle.csp_text.specs.declared.tree.Tree.{Tree}
pub use Rattle.csp_text.specs.declared.tree.FieldTree.TheFolds.{fold-roll-EventTree, fold-roll-FieldTree, fold-roll-GenTree, fold-roll-PartTree, fold-roll-Tree, map-EventTree, map-FieldTree, map-GenTree, map-PartTree, map-Tree}
pub use Rattle.csp_text.specs.declared.tree.FieldTree.TheViews.{out-EventTree, out-PartTree, roll-EventTree, roll-FieldTree, roll-GenTree, roll-PartTree, roll-Tree, roll-out-EventTree, roll-out-PartTree}
pub use Rattle.script_sizes.specs.BindingTokens.{all_tokens, event_tokens_of_layer, field_tokens_of_layer, fields_tokens, gen_tokens_of_layer, gens_tokens, pairs_tokens, part_tokens_of_layer, parts_tokens, set_tokens, tokens_of_layer}
unfoldable pub use Rattle.script_sizes.specs.BindingTokens.{event_tokens, field_tokens, gen_tokens, part_tokens, tokens}
pub use Rattle.std.proofs.Common.{List, None, Option, Some, ap, arith, map, sym, ℕ, ◌+◌, ◌∙◌, ◌≡◌}
