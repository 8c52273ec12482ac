-- The places that a fault may tell.
use Rattle.std.specs.Prelude.{◌≡◌, ◌-◌, ℕ, List, length, Result, Ok, Err}
use Rattle.csp_base.specs.declared.place.Place.{Place}
use Rattle.csp_lexer.specs.Prelude.{lexed, PlacedTokens, place_at, tokens_of}

-- the place of the token from which on so many are left; that of the text's end where none is
abbrev pub place_before : PlacedTokens → ℕ → Place
place_before text left = place_at text (length (tokens_of text.placed) - left)

-- the place of a token, or that of the text's end
abbrev pub IsPlaceIn : PlacedTokens → Place → Type 0
IsPlaceIn text at = (left : ℕ) × (at ≡ place_before text left)

-- the place of the first piece that is no token, where a text has no tokens; else the place of a token, or that of the end
abbrev pub IsPlaceWithin : Result PlacedTokens Place → Place → Type 0
IsPlaceWithin (Ok found) at = IsPlaceIn found at
IsPlaceWithin (Err place) at = at ≡ place

abbrev pub IsPlaceOf : List ℕ → Place → Type 0
IsPlaceOf text at = IsPlaceWithin (lexed text) at
