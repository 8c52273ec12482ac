-- Cutting a text into pieces from the left. `front` says which piece stands at the front of a text, if any does.
use Rattle.std.specs.Prelude.{ℕ, zero, suc, ◌-◌, List, [], ◌∷◌, ◌++◌, length, take, Option, Some, None, Result, Ok, Err}
use Rattle.csp_base.specs.declared.place.Place.{Place}
use Rattle.csp_text.specs.declared.token.Token.{Token}
use Rattle.csp_lexer.specs.Pieces.{Piece}
use Rattle.csp_lexer.specs.Placed.{PlacedTokens}
use Rattle.csp_lexer.specs.Places.{behind_all}

-- the bytes of the text before the rest
abbrev pub before : List ℕ → List ℕ → List ℕ
before text rest = take (length text - length rest) text

-- the tokens that stand before those of a cut, or the fault of one
abbrev pub added : List (Token × Place) → Result PlacedTokens Place → Result PlacedTokens Place
added placed (Ok cut) = Ok (record { placed = placed ++ cut.placed; end = cut.end })
added placed (Err at) = Err at

-- the tokens of the first piece and then those of what follows it, or the place where there is no piece
abbrev pub then_cut : Option Piece → Place → (Piece → Result PlacedTokens Place) → Result PlacedTokens Place
then_cut None at go = Err at
then_cut (Some piece) at go = added piece.placed (go piece)

-- The tokens of a text that begins at this place and is cut into n pieces at the most, or the first place at which no piece
-- stands. A piece has a byte, so n may be the number of bytes.
unfoldable pub cut : (Place → List ℕ → Option Piece) → ℕ → Place → List ℕ → Result PlacedTokens Place
cut front n at [] = Ok (record { placed = []; end = at })
cut front zero at (b ∷ text) = Err at
cut front (suc n) at (b ∷ text) =
    then_cut (front at (b ∷ text)) at
    (λ piece. cut front n (behind_all at (before (b ∷ text) piece.rest)) piece.rest)
