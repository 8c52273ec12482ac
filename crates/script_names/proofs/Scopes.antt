-- The names of a scope of parameters.
use Rattle.std.proofs.Common.{◌≡◌, ℕ, ◌+◌, List, [], ◌∷◌, refl, ap}
use Rattle.script_names.specs.Prelude.{parameters, Name, names_of}

pub names_of-parameters : (n : ℕ) (xs : List Name) → names_of (parameters n xs) ≡ xs
names_of-parameters n [] = refl
names_of-parameters n (x ∷ xs) = ap (λ ys. x ∷ ys) (names_of-parameters (n + 1) xs)
