-- Tokens with their places.
use Rattle.std.specs.Prelude.{ℕ, List, map, get_or}
use Rattle.csp_base.specs.declared.place.Place.{Place}
use Rattle.csp_text.specs.declared.token.Token.{Token}

-- the tokens of a text in order, each with the place where it begins, and the place behind the text's last byte
pub record PlacedTokens : Type 0 where
  pub placed : List (Token × Place)
  pub end : Place

-- the tokens alone
abbrev pub tokens_of : List (Token × Place) → List Token
tokens_of placed = map (λ p. p.0) placed

-- the place of the token with this number, counted from 0; that of the text's end where there is no such token
abbrev pub place_at : PlacedTokens → ℕ → Place
place_at text i = get_or (map (λ p. p.1) text.placed) i text.end
