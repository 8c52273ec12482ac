-- How tokens are written, one by one and in a line.
use Rattle.std.specs.Prelude.{ℕ, zero, suc, List, [], ◌∷◌, ◌++◌, codes, decimal, flat_map}
use Rattle.csp_text.specs.Prelude.{symbol_text, word_text}
use Rattle.csp_text.specs.declared.token.Token.{Token}
use Rattle.csp_text.specs.declared.token.Token.TheVariants as token

-- names, each behind a space
abbrev pub spaced_names : List (List ℕ) → List ℕ
spaced_names names = flat_map (λ name. 32 ∷ name) names

-- the text of a token: a name as it is, a number in decimal, and an annotation with one space before each of its names
abbrev pub token_text : Token → List ℕ
token_text (token.Name name) = name
token_text (token.Num n) = decimal n
token_text (token.Word word) = word_text word
token_text (token.Symbol symbol) = symbol_text symbol
token_text (token.Roles names) =
    codes "--@ roles" ++ spaced_names (names.process ∷ names.creq ∷ names.cack ∷ names.sreq ∷ names.sack ∷ [])
token_text (token.Resource names) =
    codes "--@ resource" ++ spaced_names (names.process ∷ names.acquire ∷ names.release ∷ [])

-- tokens, each behind a space
unfoldable pub spaced : List Token → List ℕ
spaced tokens = flat_map (λ t. 32 ∷ token_text t) tokens

-- tokens in a row, one space between two
unfoldable pub row : List Token → List ℕ
row [] = []
row (t ∷ tokens) = token_text t ++ spaced tokens

-- a row with a line feed at its end
abbrev pub line : List Token → List ℕ
line tokens = row tokens ++ 10 ∷ []

-- the sign that stands before one of several in a row: none before the first
abbrev pub before_place : ℕ → Token → List Token
before_place zero sign = []
before_place (suc place) sign = sign ∷ []
