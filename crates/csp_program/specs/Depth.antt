-- The depth of an expression or a process: 1 without parts, else one more than the greatest depth among its processes and expressions, those in
-- fields, pairs and generators included. A value that was put in has depth 1, and a head counts nothing.
use Rattle.std.specs.Prelude.{ℕ, ◌+◌, max, Some, None, map}
use Rattle.csp_program.specs.declared.expressions.Expr.{Expr, fold-Expr}
use Rattle.csp_program.specs.declared.expressions.Expr.TheFolds.{fold-Gen, fold-EventPart}
use Rattle.csp_program.specs.declared.expressions.Expr.TheOpen.{Expr-F, Gen-F, EventPart-F}
use Rattle.csp_program.specs.declared.expressions.EventPart.{EventPart}
use Rattle.csp_program.specs.declared.expressions.Gen.{Gen}
use Rattle.csp_program.specs.declared.processes.Field.{Field}
use Rattle.csp_program.specs.declared.processes.Field.TheVariants as field
use Rattle.csp_program.specs.declared.processes.Proc.{Proc, fold-Proc}
use Rattle.csp_program.specs.declared.processes.Proc.TheOpen.{Proc-F}
use Rattle.csp_base.specs.Lists.{greatest}

-- one layer of an expression, with the depths of its parts in their places
abbrev pub expr_depth_of_layer : Expr-F ℕ ℕ ℕ → ℕ
expr_depth_of_layer (Expr-F.Neg a) = 1 + a
expr_depth_of_layer (Expr-F.Not a) = 1 + a
expr_depth_of_layer (Expr-F.Binary op a b) = 1 + max a b
expr_depth_of_layer (Expr-F.If c a b) = 1 + max c (max a b)
expr_depth_of_layer (Expr-F.Call d args) = 1 + greatest args
expr_depth_of_layer (Expr-F.Event c fields) = 1 + greatest fields
expr_depth_of_layer (Expr-F.Display items) = 1 + greatest items
expr_depth_of_layer (Expr-F.Range a b) = 1 + max a b
expr_depth_of_layer (Expr-F.Comp items gens) = 1 + max (greatest items) (greatest gens)
expr_depth_of_layer (Expr-F.Product parts gens) = 1 + max (greatest parts) (greatest gens)
expr_depth_of_layer (Expr-F.SetOp op a b) = 1 + max a b
expr_depth_of_layer _ = 1

-- a generator is as deep as its expression
abbrev pub gen_depth_of_layer : Gen-F ℕ ℕ ℕ → ℕ
gen_depth_of_layer (Gen-F.From x s) = s
gen_depth_of_layer (Gen-F.Cond c) = c

-- the front of an event is as deep as its deepest field
abbrev pub part_depth_of_layer : EventPart-F ℕ ℕ ℕ → ℕ
part_depth_of_layer part = greatest part.fields

abbrev pub expr_depth : Expr → ℕ
expr_depth = fold-Expr ℕ ℕ ℕ expr_depth_of_layer gen_depth_of_layer part_depth_of_layer

abbrev pub gen_depth : Gen → ℕ
gen_depth = fold-Gen ℕ ℕ ℕ expr_depth_of_layer gen_depth_of_layer part_depth_of_layer

abbrev pub part_depth : EventPart → ℕ
part_depth = fold-EventPart ℕ ℕ ℕ expr_depth_of_layer gen_depth_of_layer part_depth_of_layer

-- a field is as deep as its expression, 0 without one
abbrev pub field_depth : Field → ℕ
field_depth (field.Put e) = expr_depth e
field_depth (field.Get x (Some s)) = expr_depth s
field_depth (field.Get x None) = 0

abbrev pub pair_depth : EventPart × EventPart → ℕ
pair_depth pair = max (part_depth pair.0) (part_depth pair.1)

-- one layer of a process, with the depths of its processes in their places
abbrev pub proc_depth_of_layer : Proc-F ℕ → ℕ
proc_depth_of_layer (Proc-F.Prefix head fields p) = 1 + max (greatest (map field_depth fields)) p
proc_depth_of_layer (Proc-F.Guard c p) = 1 + max (expr_depth c) p
proc_depth_of_layer (Proc-F.If c p q) = 1 + max (expr_depth c) (max p q)
proc_depth_of_layer (Proc-F.External ps) = 1 + greatest ps
proc_depth_of_layer (Proc-F.Internal ps) = 1 + greatest ps
proc_depth_of_layer (Proc-F.EachExternal x s p) = 1 + max (expr_depth s) p
proc_depth_of_layer (Proc-F.EachInternal x s p) = 1 + max (expr_depth s) p
proc_depth_of_layer (Proc-F.Hide p s) = 1 + max p (expr_depth s)
proc_depth_of_layer (Proc-F.Rename p pairs gens) = 1 + max p (max (greatest (map pair_depth pairs)) (greatest (map gen_depth gens)))
proc_depth_of_layer (Proc-F.Call d args) = 1 + greatest (map expr_depth args)
proc_depth_of_layer (Proc-F.Seq p q) = 1 + max p q
proc_depth_of_layer _ = 1

abbrev pub proc_depth : Proc → ℕ
proc_depth = fold-Proc ℕ proc_depth_of_layer
