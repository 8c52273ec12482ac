-- How the reader looks at tokens, and how tightly a token binds to what stands before it.
use Rattle.std.specs.Prelude.{ℕ, if◌then◌else◌, Option, Some, None, List, [], ◌∷◌}
use Rattle.csp_text.specs.Prelude.{same_symbol, same_word}
use Rattle.csp_text.specs.declared.token.Symbol.{Symbol}
use Rattle.csp_text.specs.declared.token.Token.{Token}
use Rattle.csp_text.specs.declared.token.Word.{Word}
use Rattle.csp_text.specs.declared.token.Token.TheVariants as token
use Rattle.csp_text.specs.declared.token.Word.TheVariants as word
use Rattle.csp_text.specs.declared.token.Symbol.TheVariants as symbol

-- How tightly a symbol binds what stands before it, 0 where it never goes on with that: a call 20, a renaming 18, an operator its level (16 to 11), what
-- goes on with the name of an event 10, a guard and `<-` 9, `;` 8, a choice or a hiding 7, an alphabet of a parallel 6.
abbrev pub symbol_binding : Symbol → ℕ
symbol_binding symbol.Arrow = 10
symbol_binding symbol.ExternalChoice = 7
symbol_binding symbol.InternalChoice = 7
symbol_binding symbol.OpenRename = 18
symbol_binding symbol.LeftArrow = 9
symbol_binding symbol.Dot = 10
symbol_binding symbol.Bang = 10
symbol_binding symbol.Question = 10
symbol_binding symbol.Colon = 10
symbol_binding symbol.Equal = 14
symbol_binding symbol.NotEqual = 14
symbol_binding symbol.Less = 14
symbol_binding symbol.LessEqual = 14
symbol_binding symbol.Greater = 14
symbol_binding symbol.GreaterEqual = 14
symbol_binding symbol.Plus = 15
symbol_binding symbol.Minus = 15
symbol_binding symbol.Star = 16
symbol_binding symbol.Slash = 16
symbol_binding symbol.Percent = 16
symbol_binding symbol.OpenParen = 20
symbol_binding symbol.OpenBracket = 6
symbol_binding symbol.Ampersand = 9
symbol_binding symbol.Backslash = 7
symbol_binding symbol.Semicolon = 8
symbol_binding _ = 0

-- `or` binds as 11, `and` as 12
abbrev pub word_binding : Word → ℕ
word_binding word.Or = 11
word_binding word.And = 12
word_binding _ = 0

abbrev pub binding : Token → ℕ
binding (token.Symbol s) = symbol_binding s
binding (token.Word w) = word_binding w
binding _ = 0

-- how tightly the first token of a list binds, 0 for none
abbrev pub begins : List Token → ℕ
begins [] = 0
begins (t ∷ ts) = binding t

-- what follows the symbol, where the list begins with it
abbrev pub skip : Symbol → List Token → Option (List Token)
skip s (token.Symbol u ∷ ts) = if same_symbol u s then Some ts else None
skip s _ = None

-- what follows the word, where the list begins with it
abbrev pub skip_word : Word → List Token → Option (List Token)
skip_word w (token.Word u ∷ ts) = if same_word u w then Some ts else None
skip_word w _ = None

-- the token that the list begins with
abbrev pub first_token : List Token → Option Token
first_token [] = None
first_token (t ∷ ts) = Some t

-- what follows the name that the list begins with, nothing where it begins with none
abbrev pub behind_name : List Token → List Token
behind_name (token.Name x ∷ ts) = ts
behind_name _ = []
