-- The depth of definitions of data with all of their uses expanded: a use is one node above the body that it names and above its arguments. Uses of
-- processes are not expanded, and the name of a datatype is a node without parts.
use Rattle.std.specs.Prelude.{◌+◌, ◌≤◌}
use Rattle.script_names.specs.Sources.{ℕ, zero, suc, max, Option, Some, None, List, slice_get, MOST_DATA_DEPTH, greatest, expr_depth_of_layer, gen_depth_of_layer, part_depth_of_layer, EventPart, Expr, fold-Expr, Gen, Body, Content, Def}
use Rattle.csp_program.specs.declared.expressions.Expr.TheFolds.{fold-Gen, fold-EventPart}
use Rattle.csp_program.specs.declared.expressions.Expr.TheOpen.{Expr-F}

-- where the body of each definition is so deep
module _ (depth_of : ℕ → ℕ) where
  abbrev pub expanded_depth_of_layer : Expr-F ℕ ℕ ℕ → ℕ
  expanded_depth_of_layer (Expr-F.Call d args) = 1 + max (depth_of d) (greatest args)
  expanded_depth_of_layer (Expr-F.SetName d) = 1 + depth_of d
  expanded_depth_of_layer e = expr_depth_of_layer e

  abbrev pub expanded_depth : Expr → ℕ
  expanded_depth = fold-Expr ℕ ℕ ℕ expanded_depth_of_layer gen_depth_of_layer part_depth_of_layer

  abbrev pub gen_expanded_depth : Gen → ℕ
  gen_expanded_depth = fold-Gen ℕ ℕ ℕ expanded_depth_of_layer gen_depth_of_layer part_depth_of_layer

  abbrev pub part_expanded_depth : EventPart → ℕ
  part_expanded_depth = fold-EventPart ℕ ℕ ℕ expanded_depth_of_layer gen_depth_of_layer part_depth_of_layer

  -- the body of a definition that is expanded where it is used
  abbrev pub body_depth : Body → ℕ
  body_depth (Body.Datum e) = expanded_depth e
  body_depth (Body.Nametype e) = expanded_depth e
  body_depth _ = 0

  abbrev pub depth_at : Option Def → ℕ
  depth_at None = 0
  depth_at (Some def) = body_depth def.body

-- The depth of the definition with the number d, where so many uses may still be entered, one inside another.
abbrev pub definition_depth : ℕ → List Def → ℕ → ℕ
definition_depth zero defs d = 0
definition_depth (suc n) defs d = depth_at (definition_depth n defs) (slice_get defs d)

-- The definition is not too deep: with one use more entered than the limit has nodes, one without an end would be too deep as well.
abbrev pub IsShallow : Content → ℕ → Type 0
IsShallow p d = definition_depth (MOST_DATA_DEPTH + 1) p.defs d ≤ MOST_DATA_DEPTH
