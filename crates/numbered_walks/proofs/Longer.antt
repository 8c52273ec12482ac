-- A walk with one more step at its end.
use Rattle.numbered_walks.proofs.Prelude.{◌≡◌, ℕ, List, [], ◌∷◌, ◌++◌, refl, sym, subst, next_number, number_after, Chooses, IsWalk, Move}

module _ {S : Type 0} (Has : S → Move → Type 0) (Goes : S → ℕ → Move → S → ℕ → Type 0) where
  pub one_more_step : (x y : ℕ) (s t u : S) (w z : ℕ) (ms : List Move) (m : Move) → IsWalk Has Goes x y s ms t w → Chooses (Has t) (next_number (number_after x ms)) m → Goes t w m u z → IsWalk Has Goes x y s (ms ++ m ∷ []) u z
  one_more_step x y s t u w z [] m walk chooses goes =
      (u, z, subst (λ (v : S). Chooses (Has v) (next_number x) m) (sym walk.0) chooses, subst (λ (v : S). Goes v y m u z) (sym walk.0) (subst (λ n. Goes t n m u z) (sym walk.1) goes), (refl, refl))
  one_more_step x y s t u w z (n ∷ ms) m walk chooses goes = (walk.0, walk.1, walk.2, walk.3, one_more_step (next_number x) walk.1 walk.0 t u w z ms m walk.4 chooses goes)

pub number_push : (number : ℕ) (ms : List Move) (m : Move) → number_after number (ms ++ m ∷ []) ≡ next_number (number_after number ms)
number_push number [] m = refl
number_push number (n ∷ ms) m = number_push (next_number number) ms m
