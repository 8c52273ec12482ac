-- What the proofs of this crate cite of the crates below, and of its own definitions.
pub use Rattle.csp_base.proofs.Standard.{YieldsList-at, YieldsList-from_filter, YieldsList-from_slice, YieldsList-from_slice_split, all_from_yields_List, and-false, and_parts, any_from_yields_List, both_ways, bytes_eq-Decides, cond-false, cond-true, drop-append_seam, drop-drop, drop_of_length-le, eqb-true, false≢true, find_from_yields_List, firsts-zip, length-append, length-drop, length-take-le, list_all-map, map-append, map_from_collect, nat_tests, none-some, not-true, or_cases, or_parts, prefix_len-le-length, same_Some, seconds-zip, take-append-drop, take-append_seam, take_all, unwrap_or-slice_get}
pub use Rattle.csp_base.specs.Standard.{list_all, slice_get, unwrap_or, zip}
pub use Rattle.csp_base.specs.declared.place.Place.{Place}
pub use Rattle.csp_lexer.specs.Prelude.{AnnotationText, Asserts, Begins, Cut, CutTokensAreFound, FreeText, IsName, IsWord, Lexeme, LineCut, Passed, Piece, PlacedTokens, added, annotation_words, asserted, assertion_or_token, before, beginning, behind_all, continued, cut_line, ends_line, is_blank, is_digit, is_letter, is_name_byte, is_plain, is_prime, is_single, is_space, lexed, line_comment, nothing, nothing_before, decimal_value, one, one_at, one_before, place_at, symbol_with_len, then_cut, tokens_of, with_len, word_or_name, word_token}
unfoldable pub use Rattle.csp_lexer.specs.Prelude.{after_arguments, after_call, after_closing, after_comments, assertion, begins_assertion, cut, digits_len, front, is_closed, is_deadlock_assertion, is_deadlock_free, is_foreign, is_name, line_front, line_len, line_piece, longest_symbol, marked_piece, number_token, reserved_word, resource, rest_len, roles, symbol_at, token_at, word_len, word_rest_len, words_of}
pub use Rattle.csp_lexer.specs.Symbols.{IsFront, IsLongest}
pub use Rattle.csp_text.proofs.WrittenAlike.{symbol_is, symbol_place, symbol_stands}
pub use Rattle.csp_text.specs.Prelude.{symbol_text, symbols, word_text, words}
pub use Rattle.csp_text.specs.declared.token.ResourceNames.{ResourceNames}
pub use Rattle.csp_text.specs.declared.token.RolesNames.{RolesNames}
pub use Rattle.csp_text.specs.declared.token.Word.{Word}
pub use Rattle.csp_text.specs.declared.token.Token.TheVariants.{Num}
pub use Rattle.csp_text.specs.declared.token.Symbol.{Symbol}
pub use Rattle.csp_text.specs.declared.token.Token.{Token}
pub use Rattle.csp_grammar.specs.Declarations.{ModelText}
pub use Rattle.dl_limits.specs.declared.TheConstants.{GREATEST_NUMBER}
pub use Rattle.std.proofs.Common.{Bool, Bor, List, [], add-one, ap, append-nil, append_assoc, arith, codes, cond, drop, drop-cons, eqb, false, get_or, inl, inr, length, refl, rules, sub-one, subst, suc, sym, take, tests, true, true-eqb, zero, ℕ, ◌&&◌, ◌*◌, ◌++◌, ◌+◌, ◌-◌, ◌<◌, ◌||◌, ◌∙◌, ◌∷◌, ◌≡◌, ◌≤◌, ◌⊎◌}
pub use Rattle.std.proofs.lemmas.List.{take_rest}
pub use Rattle.std.specs.List.{prefix_len, starts_with}
pub use Rattle.std.specs.Option.{option_map_or}
pub use Rattle.std.specs.Prelude.{Err, IfSome, None, Ok, Option, Result, Some, find, nat_eq, nat_le, nat_lt, not, slice_index, if◌then◌else◌, ◌↔◌, is_none}
pub use Rattle.std.specs.Str.{bytes_eq}
