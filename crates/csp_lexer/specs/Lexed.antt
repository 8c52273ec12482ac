-- The tokens of a text, or the place at which it is no script.
use Rattle.std.specs.Prelude.{ℕ, List, length, Result}
use Rattle.csp_base.specs.declared.place.Place.{Place}
use Rattle.csp_lexer.specs.Cutting.{cut}
use Rattle.csp_lexer.specs.Front.{front}
use Rattle.csp_lexer.specs.Placed.{PlacedTokens}
use Rattle.csp_lexer.specs.Places.{beginning}

-- The tokens of the text with their places and the place of its end; or the place where the first piece begins that is no
-- blank, comment, skipped assertion, annotation or token.
abbrev pub lexed : List ℕ → Result PlacedTokens Place
lexed text = cut front (length text) beginning text
