-- What the proofs of this crate cite of the crates below, and of its own definitions.
pub use Rattle.csp_base.proofs.Booleans.{and_first, and_second}
pub use Rattle.csp_base.proofs.Standard.{false_from_ne_true, nat_tests}
pub use Rattle.csp_base.specs.Lists.{greatest}
pub use Rattle.csp_base.specs.declared.operators.BinOp.{BinOp}
pub use Rattle.csp_base.specs.declared.operators.SetOp.{SetOp}
pub use Rattle.csp_grammar.proofs.Examples.{process}
pub use Rattle.csp_grammar.specs.Grammar.{part_tree}
pub use Rattle.csp_grammar.specs.Prelude.{AssertedText, AtomText, Choice, ChoiceText, ConditionsText, DeclarationText, DeclarationsText, DotsText, DottedText, EventText, ExpressionText, FieldsText, GenText, GensText, HidingText, IsComparison, IsLeftOperator, IsNext, ItemText, ItemsText, Level, ModelText, NamesText, OpenText, PairsText, ParametersText, PartText, PartsText, PrefixText, Reach, SequenceText, SideText, TreeText, TypesText, and_then, begins, begins_event, behind_name, binding, case, choice_of, choice_sign, closed, comparison, conjunction, disjunction, dotted_tree, event_tree, external, first_token, internal, minus, negation, only, opened, plain_prefix, prefix_tokens, product, renaming, skip, skip_word, sum, with_first}
pub use Rattle.csp_grammar.specs.Tokens.{symbol_binding}
pub use Rattle.csp_text.proofs.WrittenAlike.{symbol_is, word_is}
pub use Rattle.csp_text.specs.Prelude.{capped, event_depth, event_layer_depth, field_depth, field_layer_depth, gen_depth, gen_layer_depth, greatest_of_pairs, part_depth, part_layer_depth, same_symbol, same_word, set_op_word, symbol_text, tree_depth, tree_layer_depth}
pub use Rattle.csp_text.specs.declared.token.Symbol.TheVariants.{Backslash, CloseBrace, Dot, ExternalChoice, InternalChoice, OpenBrace, OpenBracket, OpenParen, Question}
pub use Rattle.csp_text.specs.declared.tree.EventTree.{EventTree}
pub use Rattle.csp_text.specs.declared.script.Script.{Script}
pub use Rattle.csp_text.specs.declared.tree.FieldTree.TheFolds.{fold-roll-EventTree, fold-roll-FieldTree, fold-roll-GenTree, fold-roll-PartTree, fold-roll-Tree, fold_out-Tree, map-FieldTree, map-GenTree, map-Tree}
pub use Rattle.csp_text.specs.declared.script.Decl.{Decl}
pub use Rattle.csp_text.specs.declared.token.Symbol.{Symbol}
pub use Rattle.csp_text.specs.declared.token.Token.TheVariants.{Name, Num, Word}
pub use Rattle.csp_text.specs.declared.token.Token.{Token}
pub use Rattle.csp_text.specs.declared.tree.FieldTree.TheOpen.{FieldTree-F, GenTree-F, Tree-F}
pub use Rattle.csp_text.specs.declared.tree.FieldTree.TheViews.{out-Tree, out-roll-FieldTree, roll-FieldTree, roll-GenTree, roll-Tree}
pub use Rattle.csp_text.specs.declared.tree.FieldTree.{FieldTree}
pub use Rattle.csp_text.specs.declared.tree.GenTree.{GenTree}
pub use Rattle.csp_text.specs.declared.tree.PartTree.{PartTree}
pub use Rattle.csp_text.specs.declared.tree.Tree.{Tree}
pub use Rattle.dl_limits.specs.declared.TheConstants.{MOST_BRACKETS, MOST_TREE_DEPTH}
pub use Rattle.std.proofs.Common.{Bool, List, None, Option, Some, [], ap, arith, codes, false, if◌then◌else◌, inl, inr, map, max, nat_eq, nat_le, nat_lt, refl, subst, suc, sym, true, zero, ℕ, ◌&&◌, ◌++◌, ◌+◌, ◌-◌, ◌<◌, ◌||◌, ◌∙◌, ◌∷◌, ◌≡◌, ◌≤◌, ◌⊎◌}
pub use Rattle.std.proofs.lemmas.Option.{none-some, same_Some}
pub use Rattle.std.proofs.lemmas.Slice.Eq.{bytes_eq-Decides}
pub use Rattle.std.specs.Str.{bytes_eq}
pub use Rattle.tree_reading.specs.Laws.{EachTextHasOneTree, EachTextIsOneScript, ReadTreesAreTrees, ReaderGivesTrees, ReaderIsComplete, ReaderIsSound, ScriptsSettle, SettledNothingIsNone, SettledScriptIsOne}
pub use Rattle.tree_reading.specs.Prelude.{ChainOfParallelsHasNoTree, Found, HidingBesideChoiceHasNoTree, Limited, MixedChoiceHasNoTree, NoBracketBeyondTheLimit, NoDotBehindQuestion, NoEmptySetBeyondTheLimit, Settles, alphabets_between, around, at_least, atom_start, bracketed, chain_symbol, choice, deadlock_free, dot_fields, each_tree, first_chain, form_start, inside, is_model, left_operand, limits, may_follow, model, name_that, named, next_limited, nothing_limited, number, of_process, other_start, prefix_start, read_asserted, read_assertion, read_atom, read_atom_rest, read_binder, read_branches, read_call, read_chain, read_channel, read_choices, read_complement, read_comprehension, read_condition, read_conditions, read_datatype, read_declaration, read_declarations, read_definition, read_dots, read_dotted, read_each, read_each_parallel, read_event, read_expression, read_field, read_fields, read_filled, read_followed, read_gen, read_gens, read_guard, read_guarded, read_hiding, read_hidings, read_if, read_input, read_item, read_items, read_names, read_nametype, read_negative, read_opened, read_operators, read_pair, read_pairs, read_parallel, read_parameters, read_parentheses, read_part, read_parts, read_prefix, read_prefixed, read_product, read_range, read_renaming, read_sequence, read_set, read_set_operator, read_side, read_tree, read_types, read_with, read_word_declaration, sign_behind, sign_binding, sure, symbol_sign, symbol_start, tighter, token_sign, word_sign, word_start}
unfoldable pub use Rattle.tree_reading.specs.Prelude.{ending, limited}
pub use Rattle.tree_reading.specs.Starts.{dot_field, layer_dot}
pub use Rattle.tree_reading.specs.declared.limits.Limits.{Limits}
pub use Rattle.tree_reading.specs.declared.look.AtomStart.{AtomStart}
pub use Rattle.tree_reading.specs.declared.look.Chain.{Chain}
pub use Rattle.tree_reading.specs.declared.look.Sign.{Sign}
pub use Rattle.tree_reading.specs.declared.read.Binding.{Binding}
