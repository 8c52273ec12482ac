-- How many uses of definitions may be entered one inside another doesn't matter, once that is as many as the uses nest. In a program in order they
-- nest no deeper than there are definitions, since no definition of data reaches itself. So the value with that number is what evaluation without
-- a bound gives, where uses are worth what their bodies are worth: it is such an evaluation, and the only one.
use Rattle.std.specs.Prelude.{◌≡◌, ℕ, ◌≤◌, IsTrue, length, slice_get}
use Rattle.csp_program.specs.Prelude.{IsInOrder, expr_in_order, NestsWithin, Env, Meaning, Uses, def_value, meaning, value_within}
use Rattle.csp_program.specs.declared.expressions.Expr.{Expr}
use Rattle.csp_program.specs.declared.programs.Content.{Content}

-- from the nesting of an expression's uses on, their number doesn't matter
abbrev pub MoreUsesChangeNothing : Type 0
MoreUsesChangeNothing = (p : Content) (n m : ℕ) → n ≤ m → (e : Expr) → NestsWithin p.defs n e → (env : Env) → value_within p m e env ≡ value_within p n e env

-- uses nest no deeper than there are definitions
abbrev pub UsesNestWithinDefinitions : Type 0
UsesNestWithinDefinitions = (p : Content) → IsInOrder p → (e : Expr) → IsTrue (expr_in_order p e) → NestsWithin p.defs (length p.defs) e

-- what an expression is worth where as many uses may be entered as there are definitions
abbrev pub worth : Content → Expr → Meaning
worth p e env = value_within p (length p.defs) e env

-- with more uses it is worth the same
abbrev pub DefinitionsAreEnough : Type 0
DefinitionsAreEnough = (p : Content) → IsInOrder p → (e : Expr) → IsTrue (expr_in_order p e) → (n : ℕ) → length p.defs ≤ n → (env : Env) → value_within p n e env ≡ worth p e env

-- what uses are worth by what their bodies are worth
abbrev pub uses_by : Content → (Expr → Meaning) → Uses
uses_by p w d args = def_value w (slice_get p.defs d) args

-- evaluation without a bound: each expression in order is worth what it means over uses that are worth what their bodies are
abbrev pub IsUnbounded : Content → (Expr → Meaning) → Type 0
IsUnbounded p w = (e : Expr) → IsTrue (expr_in_order p e) → (env : Env) → w e env ≡ meaning (uses_by p w) p.channels e env

abbrev pub WorthIsUnbounded : Type 0
WorthIsUnbounded = (p : Content) → IsInOrder p → IsUnbounded p (worth p)

-- and there is no other evaluation without a bound
abbrev pub UnboundedIsWorth : Type 0
UnboundedIsWorth = (p : Content) → IsInOrder p → (w : Expr → Meaning) → IsUnbounded p w → (e : Expr) → IsTrue (expr_in_order p e) → (env : Env) → w e env ≡ worth p e env
