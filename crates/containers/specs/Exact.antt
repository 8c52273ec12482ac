-- What makes an equality test exact: values that it finds equal are one value.
use Rattle.std.specs.Prelude.{◌≡◌, Bool, true, [], ◌∷◌, refl}
use Rattle.std.specs.Cmp.{first_so, second_so}
use Rattle.std.specs.Cmp.Lexicographic.{pointwise}
use Rattle.std.proofs.lemmas.Bool.{false≢true}

abbrev pub IsExact : {X : Type 0} → (X → X → Bool) → Type 0
IsExact {X} eq = (x y : X) → eq x y ≡ true → x ≡ y

pub IsExact-pointwise : {X : Type 0} (eq : X → X → Bool) → IsExact eq → IsExact (pointwise eq)
IsExact-pointwise eq exact [] [] h = refl
IsExact-pointwise eq exact [] (y ∷ ys) h = absurd (false≢true h)
IsExact-pointwise eq exact (x ∷ xs) [] h = absurd (false≢true h)
IsExact-pointwise eq exact (x ∷ xs) (y ∷ ys) h = λ i. exact x y (first_so (eq x y) (pointwise eq xs ys) h) i ∷ IsExact-pointwise eq exact xs ys (second_so (eq x y) (pointwise eq xs ys) h) i
