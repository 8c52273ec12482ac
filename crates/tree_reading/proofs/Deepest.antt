-- The depth of a list with one more item.
use Rattle.tree_reading.proofs.Prelude.{◌≡◌, ℕ, max, List, [], ◌∷◌, ◌++◌, map, ap, ◌∙◌, arith, greatest, capped}

with_one_more : {X : Type 0} (f : X → ℕ) (xs : List X) (x : X) → greatest (map f (xs ++ x ∷ [])) ≡ max (greatest (map f xs)) (f x)
with_one_more f [] x = omega arith
with_one_more f (y ∷ ys) x = let more = with_one_more f ys x in omega (arith, more)

pub deepest_of_more : {X : Type 0} (f : X → ℕ) (xs : List X) (x : X) {new : List X} {a b d : ℕ} → a ≡ capped (greatest (map f xs)) → b ≡ capped (f x) → d ≡ max a b →
    new ≡ xs ++ x ∷ [] → d ≡ capped (greatest (map f new))
deepest_of_more f xs x {new} {a} {b} {d} a_is b_is d_is new_is =
    let all : greatest (map f new) ≡ max (greatest (map f xs)) (f x) = ap (λ ys. greatest (map f ys)) new_is ∙ with_one_more f xs x in
    omega arith
