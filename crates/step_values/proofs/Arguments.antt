-- The values of arguments, as those of expressions under no names.
use Rattle.step_values.proofs.Prelude.{◌≡◌, Ok, List, [], ◌∷◌, length, refl, ap, and_then, value_of, Expr, Content, worths, arguments_in}

pub arguments_worth : (p : Content) (args : List Expr) → worths p (length p.defs) [] args ≡ arguments_in p args
unfolding worths
arguments_worth p [] = refl
arguments_worth p (arg ∷ args) = ap (λ o. and_then (value_of p arg) (λ v. and_then o (λ vs. Ok (v ∷ vs)))) (arguments_worth p args)
