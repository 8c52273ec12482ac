-- What the proofs of this crate cite of the crates below, and of its own definitions.
pub use Rattle.csp_base.proofs.Booleans.{and_first, and_second}
pub use Rattle.csp_base.proofs.Standard.{and_from, and_left, and_parts, bytes_eq-Decides, cond-false, cond-true, decimal_is_IsNumeral, digit_from_value, digit_value_digit, drop-append-le, drop-append_seam, eqb-true, false≢true, length-take-le, list_all-append, not-true, prefix_len-le-length, take-append_seam}
pub use Rattle.csp_base.specs.Lists.{greatest}
pub use Rattle.csp_base.specs.Standard.{AllDigits, bytes_eq, digit_value, digits_value_after, option_map_or, prefix_len, starts_with}
pub use Rattle.csp_base.specs.declared.operators.BinOp.{BinOp}
pub use Rattle.csp_base.specs.declared.operators.SetOp.{SetOp}
pub use Rattle.csp_base.specs.declared.place.Place.{Place}
pub use Rattle.csp_grammar.specs.Declarations.{AssertedText, DeclarationText, DeclarationsText, ModelText, NamesText, ParametersText, ScriptText, TypesText}
pub use Rattle.csp_grammar.specs.Grammar.{event_tree, part_tree}
pub use Rattle.csp_grammar.specs.Prelude.{AtomText, Choice, ChoiceText, ConditionsText, DotsText, DottedText, ExpressionText, FieldsText, GenText, GensText, HidingText, IsComparison, IsLeftOperator, ItemText, ItemsText, Level, OpenText, PairsText, PartText, PartsText, PrefixText, Reach, SequenceText, SideText, TreeText, choice_of, choice_sign, closed, comparison, conjunction, conjunction-negation, disjunction, disjunction-conjunction, minus, negation, product, product-minus, renaming, sum, sum-product}
pub use Rattle.csp_lexer.proofs.SymbolsLemmas.{symbol_has_byte}
pub use Rattle.csp_lexer.specs.Prelude.{Piece, PlacedTokens, added, after_comments, asserted, assertion_or_token, before, beginning, behind_all, continued, cut_line, ends_line, is_blank, is_digit, is_letter, is_name_byte, is_prime, is_single, is_space, lexed, line_comment, nothing, nothing_before, one, one_at, one_before, symbol_with_len, then_cut, tokens_of, with_len, word_or_name, word_token}
unfoldable pub use Rattle.csp_lexer.specs.Prelude.{after_arguments, after_call, after_closing, assertion, begins_assertion, cut, digits_len, front, is_closed, is_deadlock_assertion, is_deadlock_free, is_foreign, is_name, line_front, line_len, line_piece, longest_symbol, marked_piece, number_token, reserved_word, resource, rest_len, roles, symbol_at, token_at, word_len, word_rest_len, words_of}
pub use Rattle.csp_text.specs.Prelude.{field_depth, gen_depth, part_depth, set_op_word, symbol_text, symbols, tree_depth, word_text, words}
pub use Rattle.csp_text.specs.declared.token.Word.TheVariants.{Assert, Channel}
pub use Rattle.csp_text.specs.declared.token.ResourceNames.{ResourceNames}
pub use Rattle.csp_text.specs.declared.token.RolesNames.{RolesNames}
pub use Rattle.csp_text.specs.declared.script.Script.{Script}
pub use Rattle.csp_text.specs.declared.tree.FieldTree.TheFolds.{fold-roll-EventTree, fold-roll-PartTree}
pub use Rattle.csp_text.specs.declared.script.Decl.{Decl}
pub use Rattle.csp_text.specs.declared.token.Symbol.TheVariants.{Ampersand, Arrow, At, Backslash, Bang, Bar, CloseBrace, CloseBracket, CloseParen, CloseProduct, CloseRename, Colon, Comma, Defines, Dot, DotDot, ExternalChoice, InternalChoice, LeftArrow, Minus, OpenBrace, OpenBracket, OpenParen, OpenProduct, OpenRename, Parallel, Question, Semicolon}
pub use Rattle.csp_text.specs.declared.token.Token.TheVariants.{Name, Num, Symbol}
pub use Rattle.csp_text.specs.declared.token.Token.{Token}
pub use Rattle.csp_text.specs.declared.token.Word.{Word}
pub use Rattle.csp_text.specs.declared.tree.EventTree.{EventTree}
pub use Rattle.csp_text.specs.declared.tree.FieldTree.TheOpen.{Tree-F}
pub use Rattle.csp_text.specs.declared.tree.FieldTree.TheViews.{roll-Tree}
pub use Rattle.csp_text.specs.declared.tree.FieldTree.{FieldTree}
pub use Rattle.csp_text.specs.declared.tree.GenTree.{GenTree}
pub use Rattle.csp_text.specs.declared.tree.PartTree.{PartTree}
pub use Rattle.csp_text.specs.declared.tree.Tree.{Tree}
pub use Rattle.dl_limits.proofs.Printing.{trees_fit}
pub use Rattle.dl_limits.specs.declared.TheConstants.{MOST_BRACKETS, MOST_TREE_DEPTH}
pub use Rattle.print_laws.specs.Fits.{AreResource, AreRoles, Every, Fits, FitsLine, IsName, is_common}
pub use Rattle.print_laws.specs.Laws.{FoundTokensAreWellFormed, PrintedTextSpellsNoOther, PrintedTextSpellsTheScript, PrintedTokensAreAText, script_tokens}
unfoldable pub use Rattle.print_laws.specs.Lines.{Lines}
pub use Rattle.print_laws.specs.Lines.{behind, is_assert}
pub use Rattle.print_laws.specs.Made.{MadeConditions, MadeDecl, MadeDecls, MadeDots, MadeFields, MadeGen, MadeGens, MadeNames, MadePairs, MadeParameters, MadePart, MadeParts, MadeTree, MadeTrees, MadeTypes}
pub use Rattle.script_printer.proofs.PrintedEquations.{shape_is}
pub use Rattle.script_printer.specs.PrintedScript.{deadlock_free_tokens, decl_tokens}
unfoldable pub use Rattle.script_printer.specs.PrintedScript.{names_tokens, parameters_tokens, script_text, types_tokens}
pub use Rattle.script_printer.specs.PrintedTree.{Printed, as_item, as_operand, conditions, dotted, event_layer_printed, field_layer_printed, form, form_tokens, gen_layer_printed, gen_tokens, in_parentheses, operand, operator_token, part_layer_printed, separated, tree_layer_printed}
unfoldable pub use Rattle.script_printer.specs.PrintedTree.{event_tokens, field_tokens, item_tokens, operand_tokens, part_tokens, printed, printed_tokens, renamed_tokens, shape_of}
pub use Rattle.script_printer.specs.TokenText.{line, spaced_names, token_text}
unfoldable pub use Rattle.script_printer.specs.TokenText.{row, spaced}
pub use Rattle.script_printer.specs.declared.shape.Shape.TheVariants.{Atom, Compound, Dotted}
pub use Rattle.script_printer.specs.declared.shape.Shape.{Shape}
pub use Rattle.std.proofs.Common.{Bool, List, [], ap, append-nil, append_assoc, arith, codes, drop, false, length, length-append, lit<, map, refl, subst, suc, sym, take, true, zero, ℕ, ◌&&◌, ◌*◌, ◌++◌, ◌+◌, ◌-◌, ◌<◌, ◌||◌, ◌∙◌, ◌∷◌, ◌≡◌, ◌≤◌}
pub use Rattle.std.proofs.lemmas.List.Folds.{flat_map-map}
pub use Rattle.std.proofs.lemmas.List.{map-append}
pub use Rattle.std.specs.List.{filter, list_all, onto_first, slice_split}
pub use Rattle.std.specs.Prelude.{Err, None, Ok, Option, Result, Some, cond, decimal, flat_map, if◌then◌else◌, is_none, nat_eq, nat_le, nat_lt, not, slice_index}
pub use Rattle.tree_reading.proofs.Levels.{pairs_depth}
pub use Rattle.tree_reading.proofs.Meaning.{at_level, from_level}
pub use Rattle.tree_reading.proofs.Unique.{one_script}
