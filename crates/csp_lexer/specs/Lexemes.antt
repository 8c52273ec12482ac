-- Lexemes: the words, numbers, symbols and openings of comments among which the longest that fits is taken.
use Rattle.std.specs.Prelude.{◌≡◌, ◌≤◌, ◌<◌, ℕ, ◌+◌, ◌-◌, ◌*◌, Bool, true, false, List, ◌∷◌, codes, fold, Option, Some, None}
use Rattle.csp_base.specs.Standard.{list_all}
use Rattle.dl_limits.specs.declared.TheConstants.{GREATEST_NUMBER}
use Rattle.csp_text.specs.Prelude.{symbol_text, word_text}
use Rattle.csp_text.specs.declared.token.Symbol.{Symbol}
use Rattle.csp_text.specs.declared.token.Symbol.TheVariants.{ExternalChoice, OpenRename, CloseRename}
use Rattle.csp_text.specs.declared.token.Token.{Token}
use Rattle.csp_text.specs.declared.token.Token.TheVariants as token
use Rattle.csp_text.specs.declared.token.Word.{Word}
use Rattle.csp_lexer.specs.Words.{IsName, IsWord, is_digit, is_foreign}

-- the number that the digits are
abbrev pub decimal_value : List ℕ → ℕ
decimal_value digits = fold (λ n digit. n * 10 + (digit - 48)) 0 digits

-- on the line of an assertion no symbol is made of two brackets
abbrev pub is_single : Symbol → Bool
is_single ExternalChoice = false
is_single OpenRename = false
is_single CloseRename = false
is_single _ = true

-- A lexeme, on the line of an assertion or elsewhere, and the token that it is. A word that only a larger language reserves is no token, nor is a number over
-- a million or what opens a comment.
pub data Lexeme (on_line : Bool) : List ℕ → Option Token → Type 0 where
  word : (w : Word) → Lexeme on_line (word_text w) (Some (token.Word w))
  name : {x : List ℕ} → IsName x → Lexeme on_line x (Some (token.Name x))
  foreign : {x : List ℕ} → IsWord x → is_foreign x ≡ true → Lexeme on_line x None
  number : {d : ℕ} {ds : List ℕ} → list_all is_digit (d ∷ ds) ≡ true → decimal_value (d ∷ ds) ≤ GREATEST_NUMBER → Lexeme on_line (d ∷ ds) (Some (token.Num (decimal_value (d ∷ ds))))
  great : {d : ℕ} {ds : List ℕ} → list_all is_digit (d ∷ ds) ≡ true → GREATEST_NUMBER < decimal_value (d ∷ ds) → Lexeme on_line (d ∷ ds) None
  symbol : (s : Symbol) → (on_line ≡ true → is_single s ≡ true) → Lexeme on_line (symbol_text s) (Some (token.Symbol s))
  line-comment : on_line ≡ false → Lexeme on_line (codes "--") None
  comment : on_line ≡ false → Lexeme on_line (codes "{-") None
