-- The token that a text begins with: a word, a number or a symbol, the longest that fits.
use Rattle.std.specs.Prelude.{ℕ, ◌+◌, ◌-◌, ◌*◌, Bool, nat_le, nat_lt, if◌then◌else◌, List, length, take, fold, Option, Some, None}
use Rattle.std.specs.List.{prefix_len}
use Rattle.dl_limits.specs.declared.TheConstants.{GREATEST_NUMBER}
use Rattle.csp_text.specs.Prelude.{symbol_text}
use Rattle.csp_text.specs.declared.token.Symbol.{Symbol}
use Rattle.csp_text.specs.declared.token.Token.{Token}
use Rattle.csp_text.specs.declared.token.Token.TheVariants as token
use Rattle.csp_lexer.specs.Words.{is_digit}
use Rattle.csp_lexer.specs.WordTokens.{word_len, word_token}
use Rattle.csp_lexer.specs.Symbols.{symbol_at}

-- how many digits the text begins with
unfoldable pub digits_len : List ℕ → ℕ
digits_len text = prefix_len is_digit text

-- the number that n becomes where these digits follow its own
abbrev pub continued : ℕ → List ℕ → ℕ
continued n digits = fold (λ m digit. m * 10 + (digit - 48)) n digits

-- the number that the digits are, where it is at most a million
unfoldable pub number_token : List ℕ → Option Token
number_token digits = if nat_le (continued 0 digits) GREATEST_NUMBER then Some (token.Num (continued 0 digits)) else None

-- a token with its length
abbrev pub with_len : ℕ → Option Token → Option (Token × ℕ)
with_len len None = None
with_len len (Some t) = Some (t, len)

abbrev pub symbol_with_len : Option Symbol → Option (Token × ℕ)
symbol_with_len None = None
symbol_with_len (Some symbol) = Some (token.Symbol symbol, length (symbol_text symbol))

-- the token that the text begins with, and its length; on the line of an assertion or elsewhere
unfoldable pub token_at : Bool → List ℕ → Option (Token × ℕ)
token_at on_line text =
    if nat_lt 0 (word_len text) then with_len (word_len text) (word_token (take (word_len text) text))
    else if nat_lt 0 (digits_len text) then with_len (digits_len text) (number_token (take (digits_len text) text))
    else symbol_with_len (symbol_at on_line text)
