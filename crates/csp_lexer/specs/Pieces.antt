-- A piece of a text: the tokens that it gives with their places, and what follows it.
use Rattle.std.specs.Prelude.{ℕ, List, [], ◌∷◌, drop, Option, Some, None}
use Rattle.csp_base.specs.declared.place.Place.{Place}
use Rattle.csp_text.specs.declared.token.Token.{Token}

pub record Piece : Type 0 where
  pub placed : List (Token × Place)
  pub rest : List ℕ

-- a piece without meaning
abbrev pub nothing : List ℕ → Piece
nothing rest = record { placed = []; rest = rest }

-- a piece that is one token
abbrev pub one : Token → Place → List ℕ → Piece
one t at rest = record { placed = (t, at) ∷ []; rest = rest }

-- what is left, if anything is, of a piece without meaning
abbrev pub nothing_before : Option (List ℕ) → Option Piece
nothing_before None = None
nothing_before (Some rest) = Some (nothing rest)

-- a token before what is left
abbrev pub one_before : Place → List ℕ → Option Token → Option Piece
one_before at rest None = None
one_before at rest (Some t) = Some (one t at rest)

-- a token of this length at the front of the text
abbrev pub one_at : Place → List ℕ → Option (Token × ℕ) → Option Piece
one_at at text None = None
one_at at text (Some found) = Some (one found.0 at (drop found.1 text))
