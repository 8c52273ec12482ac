-- The law that joins the cut of a text to the function that the lexer follows, which also tells places.
use Rattle.std.specs.Prelude.{◌≡◌, ◌↔◌, ℕ, List, Ok}
use Rattle.csp_text.specs.declared.token.Token.{Token}
use Rattle.csp_lexer.specs.Cut.{Cut}
use Rattle.csp_lexer.specs.Lexed.{lexed}
use Rattle.csp_lexer.specs.Placed.{PlacedTokens, tokens_of}

-- A text is cut into exactly the tokens that are found. So it is cut in one way at most, and in none where a place is told.
abbrev pub CutTokensAreFound : Type 0
CutTokensAreFound = (text : List ℕ) (tokens : List Token) → Cut text tokens ↔ ((found : PlacedTokens) × (lexed text ≡ Ok found) × (tokens_of found.placed ≡ tokens))
