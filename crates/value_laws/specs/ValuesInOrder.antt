-- The values of a program in order are in order: each number in them is one of the program, and each set rises and is of one kind.
use Rattle.std.specs.Prelude.{◌≡◌, ℕ, IsTrue, Ok, [], ◌∷◌}
use Rattle.csp_program.specs.Prelude.{IsInOrder, expr_in_order, value_in_order, Env, value_within}
use Rattle.csp_program.specs.declared.expressions.Expr.{Expr}
use Rattle.csp_program.specs.declared.programs.Content.{Content}
use Rattle.csp_atoms.specs.declared.value.Value.{Value}

-- the values of all names are in order
abbrev pub EnvIsInOrder : Content → Env → Type 0
EnvIsInOrder p [] = Unit {0}
EnvIsInOrder p (b ∷ env) = IsTrue (value_in_order p b.1) × EnvIsInOrder p env

-- where an expression in order has a value, the value is in order
abbrev pub ValuesAreInOrder : Type 0
ValuesAreInOrder =
    (p : Content) → IsInOrder p → (n : ℕ) (e : Expr) → IsTrue (expr_in_order p e) → (env : Env) → EnvIsInOrder p env →
    (v : Value) → value_within p n e env ≡ Ok v → IsTrue (value_in_order p v)
