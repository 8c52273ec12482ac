-- Texts, which are lists of bytes.
use Rattle.std.specs.Prelude.{ℕ, List, [], ◌∷◌, ◌++◌}

-- a line ends with a line feed
abbrev pub line : List ℕ → List ℕ
line text = text ++ 10 ∷ []
