-- What the definitions of this crate say of lists.
use Rattle.std.specs.Prelude.{◌+◌, Bool, true, ◌&&◌, List, [], ◌∷◌, ◌++◌}

-- whether all of the list are true
abbrev pub all_true : List Bool → Bool
all_true [] = true
all_true (b ∷ bs) = b && all_true bs

-- the lists of a list, one after another
abbrev pub joined : {X : Type 0} → List (List X) → List X
joined [] = []
joined (xs ∷ xss) = xs ++ joined xss
