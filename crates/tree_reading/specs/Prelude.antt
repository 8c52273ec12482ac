-- What is defined here, under one name for those who import it.
pub use Rattle.tree_reading.specs.Asserted.{deadlock_free, is_model, model, name_that}
unfoldable pub use Rattle.tree_reading.specs.Asserted.{ending}
pub use Rattle.tree_reading.specs.Bindings.{Found, at_least, last_item, left_operand, number, of_process, tighter}
pub use Rattle.tree_reading.specs.Gives.{Gives}
pub use Rattle.tree_reading.specs.Laws.{ChainOfParallelsHasNoTree, HidingBesideChoiceHasNoTree, MixedChoiceHasNoTree, NoBracketBeyondTheLimit, NoDotBehindQuestion, NoEmptySetBeyondTheLimit, alphabets_between}
pub use Rattle.tree_reading.specs.Limited.{Limited, next_limited, nothing_limited, read_asserted, read_assertion, read_atom, read_atom_rest, read_binder, read_branches, read_call, read_chain, read_channel, read_choices, read_complement, read_comprehension, read_condition, read_conditions, read_datatype, read_declaration, read_declarations, read_definition, read_dots, read_dotted, read_each, read_each_parallel, read_event, read_expression, read_field, read_fields, read_filled, read_followed, read_gen, read_gens, read_guard, read_guarded, read_hiding, read_hidings, read_if, read_input, read_item, read_items, read_names, read_nametype, read_negative, read_opened, read_operators, read_pair, read_pairs, read_parallel, read_parameters, read_parentheses, read_part, read_parts, read_prefix, read_prefixed, read_product, read_range, read_renaming, read_sequence, read_set, read_set_operator, read_side, read_tree, read_types, read_with, read_word_declaration}
unfoldable pub use Rattle.tree_reading.specs.Limited.{limited}
pub use Rattle.tree_reading.specs.Nesting.{around, bracketed, inside, limits, opened, sure}
pub use Rattle.tree_reading.specs.Settled.{Settles}
pub use Rattle.tree_reading.specs.Starts.{atom_start, chain_symbol, choice, dot_field, dot_fields, dotted_fields, each_tree, first_chain, form_start, is_symbol_token, is_word_token, may_follow, named, other_start, prefix_start, sign_behind, sign_binding, symbol_sign, symbol_start, token_sign, token_start, word_sign, word_start}
