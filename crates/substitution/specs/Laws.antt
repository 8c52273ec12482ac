-- What a substitution keeps of an expression and of a process.
use Rattle.std.specs.Prelude.{◌≡◌, ℕ, true, ◌&&◌, is_none, Option, Some, None, Ok}
use Rattle.csp_program.specs.Prelude.{expr_depth, proc_depth, Names, expr_free, proc_free, value_in_order, expr_in_order, proc_in_order, Outcome, Given, expr_with, proc_with, Env, bound_value, value_within}
use Rattle.csp_program.specs.declared.expressions.Expr.{Expr}
use Rattle.csp_program.specs.declared.processes.Proc.{Proc}
use Rattle.csp_program.specs.declared.programs.Content.{Content}
use Rattle.csp_atoms.specs.declared.value.Value.{Value}

-- each given value is in order
abbrev pub AreInOrder : Content → Given → Type 0
AreInOrder p given = (x : ℕ) (v : Value) → given x ≡ Some v → value_in_order p v ≡ true

-- those of the names that get no value
abbrev pub without_value : Given → Names → Names
without_value given names x = is_none (given x) && names x

-- none of the names gets a value
abbrev pub GetNone : Given → Names → Type 0
GetNone given names = (x : ℕ) → names x ≡ true → given x ≡ None

-- the value that is given, if there is one, and the other one else
abbrev pub given_or : Option Value → Outcome Value → Outcome Value
given_or None other = other
given_or (Some v) other = Ok v

-- the second environment is the first one with the given values
abbrev pub IsWithGiven : Given → Env → Env → Type 0
IsWithGiven given env env' = (x : ℕ) → bound_value env' x ≡ given_or (given x) (bound_value env x)

-- an expression stays as deep as it was
abbrev pub ExprsKeepTheirDepth : Type 0
ExprsKeepTheirDepth = (given : Given) (e : Expr) → expr_depth (expr_with given e) ≡ expr_depth e

-- values in order leave an expression in order, and make none so that was not
abbrev pub ExprsKeepTheirOrder : Type 0
ExprsKeepTheirOrder =
    (p : Content) (given : Given) → AreInOrder p given → (e : Expr) → expr_in_order p (expr_with given e) ≡ expr_in_order p e

-- the names that are free in an expression are those that were, apart from those that got a value
abbrev pub ExprsLoseTheNames : Type 0
ExprsLoseTheNames = (given : Given) (e : Expr) → expr_free (expr_with given e) ≡ without_value given (expr_free e)

-- an expression none of whose free names gets a value stays as it is, as each closed one does
abbrev pub ExprsStayWithoutTheNames : Type 0
ExprsStayWithoutTheNames = (given : Given) (e : Expr) → GetNone given (expr_free e) → expr_with given e ≡ e

-- an expression is worth what it was where the names were bound to the values: the same value, or the same fault
abbrev pub ExprsKeepTheirWorth : Type 0
ExprsKeepTheirWorth =
    (p : Content) (n : ℕ) (given : Given) (e : Expr) (env env' : Env) → IsWithGiven given env env'
    → value_within p n (expr_with given e) env ≡ value_within p n e env'

-- the same of a process
abbrev pub ProcsKeepTheirDepth : Type 0
ProcsKeepTheirDepth = (given : Given) (q : Proc) → proc_depth (proc_with given q) ≡ proc_depth q

abbrev pub ProcsKeepTheirOrder : Type 0
ProcsKeepTheirOrder =
    (p : Content) (given : Given) → AreInOrder p given → (q : Proc) → proc_in_order p (proc_with given q) ≡ proc_in_order p q

abbrev pub ProcsLoseTheNames : Type 0
ProcsLoseTheNames = (given : Given) (q : Proc) → proc_free (proc_with given q) ≡ without_value given (proc_free q)

abbrev pub ProcsStayWithoutTheNames : Type 0
ProcsStayWithoutTheNames = (given : Given) (q : Proc) → GetNone given (proc_free q) → proc_with given q ≡ q
