-- For a type that holds itself through `Items` and `Boxed`: that what its derived `==` finds equal is one value. `same_rolled` makes the step of an
-- induction over the type out of a proof for one layer, in which each child is `Known`; `same_items` serves there for a list of children.
use Rattle.std.proofs.Common.{◌≡◌, Bool, true, List, [], ◌∷◌, map, refl, subst}
use Rattle.std.specs.Cmp.{first_so, second_so}
use Rattle.std.specs.Cmp.Lexicographic.{pointwise}
use Rattle.std.proofs.lemmas.Bool.{false≢true}

module _ {X : Type 0} (eq : X → X → Bool) where
  -- each value that `eq` finds equal to x is x
  abbrev pub IsSame : X → Type 0
  IsSame x = (y : X) → eq x y ≡ true → x ≡ y

  -- a value of which that is known
  abbrev pub Known : Type 0
  Known = (x : X) × IsSame x

  pub same_items : (xs : List Known) (ys : List X) → pointwise eq (map (λ e. e.0) xs) ys ≡ true → map (λ e. e.0) xs ≡ ys
  same_items [] [] h = refl
  same_items [] (y ∷ ys) h = absurd (false≢true h)
  same_items (x ∷ xs) [] h = absurd (false≢true h)
  same_items (x ∷ xs) (y ∷ ys) h = λ i. x.1 y (first_so (eq x.0 y) (pointwise eq (map (λ e. e.0) xs) ys) h) i ∷ same_items xs ys (second_so (eq x.0 y) (pointwise eq (map (λ e. e.0) xs) ys) h) i

  -- F is one layer over X, G the same over `Known`, and `bare` forgets what is known
  pub same_rolled : {F G : Type 0} (roll : F → X) (out : X → F) → ((x : X) → roll (out x) ≡ x) → (bare : G → F)
      → ((g : G) (y : F) → eq (roll (bare g)) (roll y) ≡ true → roll (bare g) ≡ roll y)
      → (x : F) (g : G) → bare g ≡ x → IsSame (roll x)
  same_rolled roll out roll-out bare layer x g is y =
      subst (λ z. eq (roll z) y ≡ true → roll z ≡ y) is
      (subst (λ z. eq (roll (bare g)) z ≡ true → roll (bare g) ≡ z) (roll-out y) (layer g (out y)))
