-- Which definitions an expression uses, by a call or by the name of a set, and which a definition of data reaches.
use Rattle.std.specs.Prelude.{ℕ, nat_eq, IsTrue, Option, Some, None, List, slice_get}
use Rattle.csp_program.specs.Free.{Names, nowhere, either, any_of}
use Rattle.csp_program.specs.declared.expressions.Expr.{Expr, fold-Expr}
use Rattle.csp_program.specs.declared.expressions.Expr.TheOpen.{Expr-F, Gen-F, EventPart-F}
use Rattle.csp_program.specs.declared.programs.Body.{Body}
use Rattle.csp_program.specs.declared.programs.Body.TheVariants as body
use Rattle.csp_program.specs.declared.programs.Def.{Def}

abbrev pub expr_uses_of_layer : Expr-F Names Names Names → Names
expr_uses_of_layer (Expr-F.Num n) = nowhere
expr_uses_of_layer (Expr-F.Truth b) = nowhere
expr_uses_of_layer (Expr-F.Const k) = nowhere
expr_uses_of_layer (Expr-F.Bound y) = nowhere
expr_uses_of_layer (Expr-F.Lit v) = nowhere
expr_uses_of_layer (Expr-F.Neg a) = a
expr_uses_of_layer (Expr-F.Not a) = a
expr_uses_of_layer (Expr-F.Binary op a b) = either a b
expr_uses_of_layer (Expr-F.If c a b) = either c (either a b)
expr_uses_of_layer (Expr-F.Call d args) = either (λ n. nat_eq d n) (any_of args)
expr_uses_of_layer (Expr-F.SetName d) = λ n. nat_eq d n
expr_uses_of_layer (Expr-F.Event c fields) = any_of fields
expr_uses_of_layer (Expr-F.Display items) = any_of items
expr_uses_of_layer (Expr-F.Range a b) = either a b
expr_uses_of_layer (Expr-F.Comp items gens) = either (any_of items) (any_of gens)
expr_uses_of_layer (Expr-F.Product parts gens) = either (any_of parts) (any_of gens)
expr_uses_of_layer (Expr-F.SetOp op a b) = either a b

abbrev pub gen_uses_of_layer : Gen-F Names Names Names → Names
gen_uses_of_layer (Gen-F.From y s) = s
gen_uses_of_layer (Gen-F.Cond c) = c

abbrev pub part_uses_of_layer : EventPart-F Names Names Names → Names
part_uses_of_layer part = any_of part.fields

-- the numbers of the definitions that an expression uses
abbrev pub expr_uses : Expr → Names
expr_uses = fold-Expr Names Names Names expr_uses_of_layer gen_uses_of_layer part_uses_of_layer

-- the numbers of the definitions that a definition of data uses; the others use none
abbrev pub body_uses : Body → Names
body_uses (body.Datum e) = expr_uses e
body_uses (body.Nametype e) = expr_uses e
body_uses (body.Datatype ks) = nowhere
body_uses (body.Process p) = nowhere
body_uses (body.Network n) = nowhere

-- whether the definition with the number i uses that with the number j
abbrev pub def_uses : Option Def → Names
def_uses None = nowhere
def_uses (Some def) = body_uses def.body

-- the definition with the number i leads to that with the number j by one use or more
pub data Reaches (defs : List Def) : ℕ → ℕ → Type 0 where
  by_use : (i j : ℕ) → IsTrue (def_uses (slice_get defs i) j) → Reaches defs i j
  by_way : (i k j : ℕ) → IsTrue (def_uses (slice_get defs i) k) → Reaches defs k j → Reaches defs i j
