-- What it is to pass the piece at the front of a text.
use Rattle.std.specs.Prelude.{◌≡◌, ℕ, List, ◌++◌, Option, Some, None}
use Rattle.csp_lexer.specs.Pieces.{Piece}
use Rattle.csp_lexer.specs.Placed.{PlacedTokens}

-- the tokens of the piece are added to those before, and its rest is left; where there is no piece, nothing is left
abbrev pub Passed : Option Piece → PlacedTokens → PlacedTokens → Option (List ℕ) → Type 0
Passed None old new left = left ≡ None
Passed (Some piece) old new left =
    (left ≡ Some piece.rest) × (new.placed ≡ old.placed ++ piece.placed)
