-- How many uses of definitions an expression enters, one inside another, at most: none where it uses none, else one more than the bodies of the
-- definitions that it uses. This is what the expanded depth of a definition bounds.
use Rattle.std.specs.Prelude.{◌≡◌, ℕ, zero, suc, false, IsTrue, Option, Some, None, List, slice_get}
use Rattle.csp_program.specs.Uses.{expr_uses}
use Rattle.csp_program.specs.declared.expressions.Expr.{Expr}
use Rattle.csp_program.specs.declared.programs.Body.{Body}
use Rattle.csp_program.specs.declared.programs.Body.TheVariants as body
use Rattle.csp_program.specs.declared.programs.Def.{Def}

abbrev pub BodyNests : (Expr → Type 0) → Body → Type 0
BodyNests within (body.Datum e) = within e
BodyNests within (body.Nametype e) = within e
BodyNests within (body.Datatype ks) = Unit {0}
BodyNests within (body.Process p) = Unit {0}
BodyNests within (body.Network n) = Unit {0}

abbrev pub DefNests : (Expr → Type 0) → Option Def → Type 0
DefNests within None = Unit {0}
DefNests within (Some def) = BodyNests within def.body

abbrev pub NestsWithin : List Def → ℕ → Expr → Type 0
NestsWithin defs zero e = (d : ℕ) → expr_uses e d ≡ false
NestsWithin defs (suc n) e = (d : ℕ) → IsTrue (expr_uses e d) → DefNests (NestsWithin defs n) (slice_get defs d)
