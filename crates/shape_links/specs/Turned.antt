-- A circle, passed the other way round.
use Rattle.std.specs.Prelude.{ℕ, List, [], ◌∷◌, reverse}

-- the first vertex, and the others in the other direction
abbrev pub turned_circle : List ℕ → List ℕ
turned_circle [] = []
turned_circle (v ∷ vs) = v ∷ reverse vs
