-- The names of a scope, and what the evaluator says of expressions under them.
use Rattle.network_layout.proofs.Prelude.{◌≡◌, ℕ, Ok, List, [], ◌∷◌, ◌++◌, refl, ap, append-nil, Atom, with_bound, and_then, Env, value_within, Expr, Content, worths, all_outcomes}

pub none_placed : (bound : List (ℕ × Atom)) (env : Env) → with_bound bound (env ++ []) ≡ with_bound bound env
none_placed bound env = ap (with_bound bound) (append-nil env)

pub arguments_worth : (p : Content) (n : ℕ) (env : Env) (args : List Expr) → worths p n env args ≡ all_outcomes (λ e. value_within p n e env) args
unfolding worths
arguments_worth p n env [] = refl
arguments_worth p n env (arg ∷ args) = ap (λ o. and_then (value_within p n arg env) (λ v. and_then o (λ vs. Ok (v ∷ vs)))) (arguments_worth p n env args)
