-- What is defined here, under one name for those who import it.
pub use Rattle.csp_text.specs.Depth.{capped, event_depth, event_layer_depth, field_depth, field_layer_depth, gen_depth, gen_layer_depth, greatest_of_pairs, part_depth, part_layer_depth, tree_depth, tree_layer_depth}
pub use Rattle.csp_text.specs.Parts.{of_event, of_field, of_pairs, of_part, of_tree}
pub use Rattle.csp_text.specs.Written.{same_symbol, same_word, set_op_word, symbol_text, symbols, word_text, words}
pub use Rattle.csp_text.specs.declared.token.Symbol.{Symbol}
