-- A text has no more tokens than bytes. A token has a byte, an annotation is one token for a whole line, and an assertion is its word and the tokens of the
-- rest of its line.
use Rattle.csp_parser.proofs.Prelude.{◌≡◌, ℕ, ◌+◌, ◌<◌, ◌≤◌, Bool, List, length, drop, take, ap, sym, ◌∙◌, length-append, length-drop, arith, take-append-drop, Option, Token, Cut, Lexeme, LineCut, line_len, rest_len, symbol_has_byte}
use Rattle.csp_lexer.specs.Cut as cuts
use Rattle.csp_lexer.specs.Lexemes as lexeme
use Rattle.csp_lexer.proofs.CutLemmas.{comment_leaves}
use Rattle.csp_lexer.proofs.FrontsLemmas.{word_has_byte}
use Rattle.csp_lexer.proofs.LexemeLemmas.{reserved_word_is}

lexeme_has_byte : {on_line : Bool} {part : List ℕ} {found : Option Token} → Lexeme on_line part found → 0 < length part
lexeme_has_byte (lexeme.word w) = word_has_byte _ (reserved_word_is w)
lexeme_has_byte (lexeme.name is) = word_has_byte _ is.0
lexeme_has_byte (lexeme.foreign is e) = word_has_byte _ is
lexeme_has_byte (lexeme.number all fits) = omega arith
lexeme_has_byte (lexeme.great all large) = omega arith
lexeme_has_byte (lexeme.symbol s counts) = symbol_has_byte s
lexeme_has_byte (lexeme.line-comment e) = omega arith
lexeme_has_byte (lexeme.comment e) = omega arith

halves : (len : ℕ) (text : List ℕ) → length (take len text) + length (drop len text) ≡ length text
halves len text = sym (length-append (take len text) (drop len text)) ∙ ap length (take-append-drop len text)

line_fits : {text : List ℕ} {ts : List Token} → LineCut text ts → length ts ≤ length text
line_fits cuts.end = omega arith
line_fits (cuts.space h c) = omega (arith, line_fits c)
line_fits (cuts.token {part = part} {rest = rest} b c) = omega (arith, line_fits c, lexeme_has_byte b.lexeme, length-append part rest)

pub no_more_than_bytes : {text : List ℕ} {ts : List Token} → Cut text ts → length ts ≤ length text
no_more_than_bytes cuts.end = omega arith
no_more_than_bytes (cuts.blank h c) = omega (arith, no_more_than_bytes c)
no_more_than_bytes (cuts.comment {text = text} {rest = rest} e c) = omega (arith, comment_leaves text rest e, no_more_than_bytes c)
no_more_than_bytes (cuts.line-comment {text = text} h c) = omega (arith, no_more_than_bytes c, length-drop (line_len text) text)
no_more_than_bytes (cuts.annotation {text = text} n c) = omega (arith, no_more_than_bytes c, length-drop (line_len text) text)
no_more_than_bytes (cuts.assertion {text = text} {line = line} {ts = ts} begun l a c) =
    omega (arith, line_fits l, no_more_than_bytes c, length-append line ts, halves (rest_len text) text)
no_more_than_bytes (cuts.skipped {text = text} begun none c) = omega (arith, no_more_than_bytes c, length-drop (rest_len text) text)
no_more_than_bytes (cuts.token {part = part} {rest = rest} b other c) = omega (arith, no_more_than_bytes c, lexeme_has_byte b.lexeme, length-append part rest)
