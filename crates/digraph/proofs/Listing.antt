-- A number is listed where std's test finds it, which has its operands the other way round.
use Rattle.digraph.proofs.Prelude.{◌≡◌, ℕ, ◌||◌, nat_eq, List, [], ◌∷◌, refl, nat_eq_equiv, has, is_member}

pub same_has : (xs : List ℕ) (x : ℕ) → has xs x ≡ is_member nat_eq xs x
same_has [] x = refl
same_has (y ∷ ys) x = λ i. nat_eq_equiv.symm y x i || same_has ys x i
