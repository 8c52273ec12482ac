-- What it is for an expression to be worth the same under each binding of some generators: for the contracts of the functions that look for names.
use Rattle.std.specs.Prelude.{◌≡◌, ℕ, Bool, false, ◌||◌, nat_eq, List, [], ◌∷◌}
use Rattle.std.specs.List.{All}
use Rattle.csp_program.specs.Prelude.{Env, bound_value}
use Rattle.csp_program.specs.declared.expressions.EventPart.{EventPart}
use Rattle.csp_program.specs.declared.expressions.Expr.{Expr}
use Rattle.csp_program.specs.declared.expressions.Expr.TheOpen.{Gen-F}
use Rattle.csp_program.specs.declared.expressions.Expr.TheViews.{out-Gen, out-EventPart}
use Rattle.csp_program.specs.declared.expressions.Gen.{Gen}
use Rattle.csp_program.specs.declared.programs.Content.{Content}
use Rattle.csp_values.specs.Worth.{worth}

-- whether a generator binds the name
abbrev pub binds_of_layer : {A B C : Type 0} → Gen-F A B C → ℕ → Bool
binds_of_layer (Gen-F.From y s) x = nat_eq y x
binds_of_layer (Gen-F.Cond c) x = false

-- whether one of the generators does
abbrev pub bind : List Gen → ℕ → Bool
bind [] x = false
bind (g ∷ gens) x = binds_of_layer (out-Gen g) x || bind gens x

-- the environments have the same value for each name that no generator binds
abbrev pub AgreeBeside : List Gen → Env → Env → Type 0
AgreeBeside gens env env' = (x : ℕ) → bind gens x ≡ false → bound_value env x ≡ bound_value env' x

-- the expression is worth the same under both of such environments
unfoldable pub Stays : List Gen → Expr → Type 0
Stays gens e = (p : Content) (n : ℕ) (env env' : Env) → AgreeBeside gens env env' → worth p n env e ≡ worth p n env' e

abbrev pub PartStays : List Gen → EventPart → Type 0
PartStays gens part = All (Stays gens) (out-EventPart part).fields
