-- The alphabets of some components and of others, together.
use Rattle.network_layout.proofs.Prelude.{◌≡◌, ℕ, ◌||◌, List, [], ◌∷◌, ◌++◌, refl, sym, ◌∙◌, arith, nat_tests, IsStrictlyIncreasing, union_of, Component, joint, has, has-union_of, increasing-set_of, increasing-union_of, same_set}

increasing-joint : {T : Type 0} (cs : List (Component T)) → IsStrictlyIncreasing (joint cs)
increasing-joint [] = increasing-set_of []
increasing-joint (c ∷ cs) = increasing-union_of c.alphabet (joint cs) (increasing-joint cs)

has-append : {T : Type 0} (cs ds : List (Component T)) (e : ℕ) → has (joint (cs ++ ds)) e ≡ (has (joint cs) e || has (joint ds) e)
has-append [] ds e = refl
has-append (c ∷ cs) ds e = grind (arith, nat_tests, has-union_of, has-append cs ds e)

pub joint-append : {T : Type 0} (cs ds : List (Component T)) → joint (cs ++ ds) ≡ union_of (joint cs) (joint ds)
joint-append cs ds =
    same_set (joint (cs ++ ds)) (union_of (joint cs) (joint ds)) (increasing-joint (cs ++ ds)) (increasing-union_of (joint cs) (joint ds) (increasing-joint ds))
    (λ e. has-append cs ds e ∙ sym (has-union_of (joint cs) (joint ds) e))
