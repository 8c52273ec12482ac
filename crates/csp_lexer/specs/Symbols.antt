-- Symbols of a text: the longest one that fits.
use Rattle.std.specs.Prelude.{◌≡◌, ◌≤◌, ℕ, Bool, nat_eq, if◌then◌else◌, List, ◌++◌, length, codes, find, Option, Some, None}
use Rattle.std.specs.List.{starts_with}
use Rattle.csp_text.specs.Prelude.{symbol_text, symbols}
use Rattle.csp_text.specs.declared.token.Symbol.{Symbol}
use Rattle.csp_text.specs.declared.token.Symbol.TheVariants.{OpenBracket, CloseBracket}

-- the longest symbol that the text begins with
unfoldable pub longest_symbol : List ℕ → Option Symbol
longest_symbol text = find (λ symbol. starts_with nat_eq text (symbol_text symbol)) symbols

-- the part stands at the front of the text
abbrev pub IsFront : List ℕ → List ℕ → Type 0
IsFront part text = (rest : List ℕ) × (text ≡ part ++ rest)

-- What is found is the longest symbol that stands at the front of the text: it does, and no symbol that does is longer. Where nothing is
-- found, none does.
abbrev pub IsLongest : List ℕ → Option Symbol → Type 0
IsLongest text (Some found) =
    IsFront (symbol_text found) text × ((symbol : Symbol) → IsFront (symbol_text symbol) text → length (symbol_text symbol) ≤ length (symbol_text found))
IsLongest text None = (symbol : Symbol) → IsFront (symbol_text symbol) text → ⊥

-- the symbol that the text begins with. On the line of an assertion each bracket is a symbol by itself.
unfoldable pub symbol_at : Bool → List ℕ → Option Symbol
symbol_at on_line text =
    if on_line
    then if starts_with nat_eq text (codes "[") then Some OpenBracket
    else if starts_with nat_eq text (codes "]") then Some CloseBracket
    else longest_symbol text
    else longest_symbol text
