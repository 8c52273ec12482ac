-- The piece that a line comment is, which may be an annotation.
use Rattle.std.specs.Prelude.{ℕ, nat_eq, nat_lt, if◌then◌else◌, List, [], ◌∷◌, length, take, drop, codes, Option, Some, None}
use Rattle.csp_base.specs.Standard.{filter, list_all, slice_split, starts_with, bytes_eq}
use Rattle.csp_base.specs.declared.place.Place.{Place}
use Rattle.csp_text.specs.declared.token.Token.{Token}
use Rattle.csp_text.specs.declared.token.Token.TheVariants as token
use Rattle.csp_lexer.specs.Annotations.{is_space}
use Rattle.csp_lexer.specs.Comments.{line_len}
use Rattle.csp_lexer.specs.Pieces.{Piece, nothing, one_before}
use Rattle.csp_lexer.specs.WordTokens.{is_name}

-- the words of a line, which are its parts between spaces that are not empty
unfoldable pub words_of : List ℕ → List (List ℕ)
words_of line = filter (λ word. nat_lt 0 (length word)) (slice_split is_space line)

-- five names and nothing else
unfoldable pub roles : List (List ℕ) → Option Token
roles (process ∷ creq ∷ cack ∷ sreq ∷ sack ∷ []) =
    if list_all is_name (process ∷ creq ∷ cack ∷ sreq ∷ sack ∷ [])
    then Some (token.Roles (record { process = process; creq = creq; cack = cack; sreq = sreq; sack = sack }))
    else None
roles _ = None

-- three names and nothing else
unfoldable pub resource : List (List ℕ) → Option Token
resource (process ∷ acquire ∷ release ∷ []) =
    if list_all is_name (process ∷ acquire ∷ release ∷ [])
    then Some (token.Resource (record { process = process; acquire = acquire; release = release }))
    else None
resource _ = None

-- the piece that is `--@`, these words and what follows them: an annotation with too few or too many names is none
unfoldable pub marked_piece : Place → List (List ℕ) → List ℕ → Option Piece
marked_piece at [] rest = Some (nothing rest)
marked_piece at (word ∷ names) rest =
    if bytes_eq word (codes "roles") then one_before at rest (roles names)
    else if bytes_eq word (codes "resource") then one_before at rest (resource names)
    else Some (nothing rest)

-- the line comment that stands at the front of a text, of which the line is this one and the rest follows it
unfoldable pub line_piece : Place → List ℕ → List ℕ → Option Piece
line_piece at line rest = if starts_with nat_eq line (codes "--@") then marked_piece at (words_of (drop 3 line)) rest else Some (nothing rest)

abbrev pub line_comment : Place → List ℕ → Option Piece
line_comment at text = line_piece at (take (line_len text) text) (drop (line_len text) text)
