-- The piece that stands at the front of a text: a blank, a comment, an annotation, an assertion or a token.
use Rattle.std.specs.Prelude.{ℕ, Bool, false, nat_eq, if◌then◌else◌, List, drop, take, codes, Option, Some, slice_index}
use Rattle.csp_base.specs.Standard.{starts_with, bytes_eq}
use Rattle.csp_base.specs.declared.place.Place.{Place}
use Rattle.csp_lexer.specs.AnnotationPieces.{line_comment}
use Rattle.csp_lexer.specs.AssertionPieces.{assertion}
use Rattle.csp_lexer.specs.Comments.{after_comments}
use Rattle.csp_lexer.specs.Cut.{is_blank}
use Rattle.csp_lexer.specs.Pieces.{Piece, nothing, nothing_before, one_at}
use Rattle.csp_lexer.specs.Tokens.{token_at}
use Rattle.csp_lexer.specs.WordTokens.{word_len}

-- the text's first word is `assert`
unfoldable pub begins_assertion : List ℕ → Bool
begins_assertion text = bytes_eq (take (word_len text) text) (codes "assert")

-- an assertion or a token
abbrev pub assertion_or_token : Place → List ℕ → Option Piece
assertion_or_token at text = if begins_assertion text then Some (assertion at (drop 6 text)) else one_at at text (token_at false text)

unfoldable pub front : Place → List ℕ → Option Piece
front at text =
    if is_blank (slice_index text 0) then Some (nothing (drop 1 text))
    else if starts_with nat_eq text (codes "--") then line_comment at text
    else if starts_with nat_eq text (codes "{-") then nothing_before (after_comments 1 (drop 2 text))
    else assertion_or_token at text
