-- Lists without doubles: the list once a value is in it.
use Rattle.std.specs.Prelude.{Bool, List, [], ◌∷◌, ◌++◌, if◌then◌else◌}
use Rattle.std.specs.Set.{is_member}

-- xs once x is in it: the same list if it has x, by `eq`, else with x at its end
abbrev pub with_new : {X : Type 0} → (X → X → Bool) → List X → X → List X
with_new eq xs x = if is_member eq xs x then xs else xs ++ x ∷ []
