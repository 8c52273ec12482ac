-- What is defined here, under one name for those who import it.
pub use Rattle.csp_lexer.specs.AnnotationPieces.{line_comment}
unfoldable pub use Rattle.csp_lexer.specs.AnnotationPieces.{line_piece, marked_piece, resource, roles, words_of}
pub use Rattle.csp_lexer.specs.Annotations.{AnnotationText, annotation_words, is_plain, is_space}
pub use Rattle.csp_lexer.specs.AssertionPieces.{asserted, cut_line}
unfoldable pub use Rattle.csp_lexer.specs.AssertionPieces.{after_arguments, after_call, assertion, is_closed, is_deadlock_assertion, is_deadlock_free, line_front}
pub use Rattle.csp_lexer.specs.Assertions.{Asserts, FreeText, ends_line}
unfoldable pub use Rattle.csp_lexer.specs.Assertions.{after_closing, rest_len}
pub use Rattle.csp_lexer.specs.Classes.{is_of}
unfoldable pub use Rattle.csp_lexer.specs.Comments.{after_comments, line_len}
pub use Rattle.csp_lexer.specs.Cut.{Begins, Cut, LineCut, is_blank}
pub use Rattle.csp_lexer.specs.Cutting.{added, before, then_cut}
unfoldable pub use Rattle.csp_lexer.specs.Cutting.{cut}
pub use Rattle.csp_lexer.specs.Front.{assertion_or_token}
unfoldable pub use Rattle.csp_lexer.specs.Front.{begins_assertion, front}
pub use Rattle.csp_lexer.specs.Laws.{CutTokensAreFound}
pub use Rattle.csp_lexer.specs.Lexed.{lexed}
pub use Rattle.csp_lexer.specs.Lexemes.{Lexeme, is_single, decimal_value}
pub use Rattle.csp_lexer.specs.Passed.{Passed}
pub use Rattle.csp_lexer.specs.Pieces.{Piece, nothing, nothing_before, one, one_at, one_before}
pub use Rattle.csp_lexer.specs.Placed.{PlacedTokens, place_at, tokens_of}
pub use Rattle.csp_lexer.specs.Places.{beginning, behind_all}
unfoldable pub use Rattle.csp_lexer.specs.Symbols.{longest_symbol, symbol_at}
pub use Rattle.csp_lexer.specs.Tokens.{continued, symbol_with_len, with_len}
unfoldable pub use Rattle.csp_lexer.specs.Tokens.{digits_len, number_token, token_at}
pub use Rattle.csp_lexer.specs.WordTokens.{is_prime, word_or_name, word_token}
unfoldable pub use Rattle.csp_lexer.specs.WordTokens.{is_name, reserved_word, word_len, word_rest_len}
pub use Rattle.csp_lexer.specs.Words.{IsName, IsWord, is_digit, is_letter, is_name_byte}
unfoldable pub use Rattle.csp_lexer.specs.Words.{is_foreign}
