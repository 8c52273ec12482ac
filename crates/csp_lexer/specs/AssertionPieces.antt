-- The piece that an assertion is.
use Rattle.std.specs.Prelude.{ℕ, Bool, true, false, ◌&&◌, ◌||◌, if◌then◌else◌, List, [], ◌∷◌, length, take, drop, codes, Option, Some, None, Result, Ok, Err}
use Rattle.csp_base.specs.Standard.{option_map_or, bytes_eq}
use Rattle.csp_base.specs.declared.place.Place.{Place}
use Rattle.csp_text.specs.declared.token.Symbol.TheVariants.{Colon, OpenParen, OpenBracket, CloseBracket}
use Rattle.csp_text.specs.declared.token.Token.{Token}
use Rattle.csp_text.specs.declared.token.Token.TheVariants.{Name, Word, Symbol}
use Rattle.csp_text.specs.declared.token.Word.TheVariants.{Assert}
use Rattle.csp_lexer.specs.Annotations.{is_space}
use Rattle.csp_lexer.specs.Assertions.{after_closing, rest_len}
use Rattle.csp_lexer.specs.Cutting.{cut}
use Rattle.csp_lexer.specs.Pieces.{Piece, nothing, one_at}
use Rattle.csp_lexer.specs.Placed.{PlacedTokens, tokens_of}
use Rattle.csp_lexer.specs.Places.{behind_all}
use Rattle.csp_lexer.specs.Tokens.{token_at}

-- the piece at the front of the rest of an assertion's line
unfoldable pub line_front : Place → List ℕ → Option Piece
line_front at [] = None
line_front at (b ∷ text) = if is_space b then Some (nothing text) else one_at at (b ∷ text) (token_at true (b ∷ text))

-- what closes `[ deadlock free`: `]`, or `[ F ] ]` with the model F or FD
unfoldable pub is_closed : List Token → Bool
is_closed (Symbol CloseBracket ∷ []) = true
is_closed (Symbol OpenBracket ∷ Name model ∷ Symbol CloseBracket ∷ Symbol CloseBracket ∷ []) = bytes_eq model (codes "F") || bytes_eq model (codes "FD")
is_closed _ = false

-- `: [ deadlock free ]`, with a model or without
unfoldable pub is_deadlock_free : List Token → Bool
is_deadlock_free (Symbol Colon ∷ Symbol OpenBracket ∷ Name deadlock ∷ Name free ∷ tokens) =
    bytes_eq deadlock (codes "deadlock") && bytes_eq free (codes "free") && is_closed tokens
is_deadlock_free _ = false

-- what follows a name, and its arguments where it has some
unfoldable pub after_arguments : List Token → Option (List Token)
after_arguments (Symbol OpenParen ∷ tokens) = after_closing 1 tokens
after_arguments tokens = Some tokens

unfoldable pub after_call : List Token → Option (List Token)
after_call (Name name ∷ tokens) = after_arguments tokens
after_call _ = None

-- a name, which may have arguments, is asserted to be free of deadlock
unfoldable pub is_deadlock_assertion : List Token → Bool
is_deadlock_assertion tokens = option_map_or is_deadlock_free (after_call tokens) false

-- the piece of an assertion of whose line this is the cut
abbrev pub asserted : Place → List ℕ → Result PlacedTokens Place → Piece
asserted at rest (Ok line) =
    if is_deadlock_assertion (tokens_of line.placed)
    then record { placed = (Word Assert, at) ∷ line.placed; rest = rest }
    else nothing rest
asserted at rest (Err fault) = nothing rest

-- the cut of the rest of a line
abbrev pub cut_line : Place → List ℕ → Result PlacedTokens Place
cut_line at line = cut line_front (length line) at line

-- the assertion whose word stands at this place and is followed by this text
unfoldable pub assertion : Place → List ℕ → Piece
assertion at text =
    asserted at (drop (rest_len text) text) (cut_line (behind_all at (codes "assert")) (take (rest_len text) text))
