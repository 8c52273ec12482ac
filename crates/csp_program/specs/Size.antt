-- The size of an expression or a process: 1 for each process, expression, field, pair and generator in it, and 1 more for each element of a set
-- that was put in. The front of an event and a head count nothing beside their expressions.
use Rattle.std.specs.Prelude.{ℕ, ◌+◌, Some, None, map, length}
use Rattle.csp_atoms.specs.declared.value.Value.{Value}
use Rattle.csp_atoms.specs.declared.value.Value.TheVariants.{One, Many}
use Rattle.csp_program.specs.declared.expressions.Expr.{Expr, fold-Expr}
use Rattle.csp_program.specs.declared.expressions.Expr.TheFolds.{fold-Gen, fold-EventPart}
use Rattle.csp_program.specs.declared.expressions.Expr.TheOpen.{Expr-F, Gen-F, EventPart-F}
use Rattle.csp_program.specs.declared.expressions.EventPart.{EventPart}
use Rattle.csp_program.specs.declared.expressions.Gen.{Gen}
use Rattle.csp_program.specs.declared.processes.Field.{Field}
use Rattle.csp_program.specs.declared.processes.Field.TheVariants as field
use Rattle.csp_program.specs.declared.processes.Proc.{Proc, fold-Proc}
use Rattle.csp_program.specs.declared.processes.Proc.TheOpen.{Proc-F}
use Rattle.csp_base.specs.Lists.{total}

-- how many elements of sets a value has
abbrev pub elements_of : Value → ℕ
elements_of (One a) = 0
elements_of (Many atoms) = length atoms

-- one layer of an expression, with the sizes of its parts in their places
abbrev pub expr_size_of_layer : Expr-F ℕ ℕ ℕ → ℕ
expr_size_of_layer (Expr-F.Num n) = 1
expr_size_of_layer (Expr-F.Truth b) = 1
expr_size_of_layer (Expr-F.Const k) = 1
expr_size_of_layer (Expr-F.Bound x) = 1
expr_size_of_layer (Expr-F.Lit v) = 1 + elements_of v
expr_size_of_layer (Expr-F.Neg a) = 1 + a
expr_size_of_layer (Expr-F.Not a) = 1 + a
expr_size_of_layer (Expr-F.Binary op a b) = 1 + a + b
expr_size_of_layer (Expr-F.If c a b) = 1 + c + a + b
expr_size_of_layer (Expr-F.Call d args) = 1 + total args
expr_size_of_layer (Expr-F.SetName d) = 1
expr_size_of_layer (Expr-F.Event c fields) = 1 + total fields
expr_size_of_layer (Expr-F.Display items) = 1 + total items
expr_size_of_layer (Expr-F.Range a b) = 1 + a + b
expr_size_of_layer (Expr-F.Comp items gens) = 1 + total items + total gens
expr_size_of_layer (Expr-F.Product parts gens) = 1 + total parts + total gens
expr_size_of_layer (Expr-F.SetOp op a b) = 1 + a + b

abbrev pub gen_size_of_layer : Gen-F ℕ ℕ ℕ → ℕ
gen_size_of_layer (Gen-F.From x s) = 1 + s
gen_size_of_layer (Gen-F.Cond c) = 1 + c

-- the front of an event has the sizes of its fields
abbrev pub part_size_of_layer : EventPart-F ℕ ℕ ℕ → ℕ
part_size_of_layer part = total part.fields

abbrev pub expr_size : Expr → ℕ
expr_size = fold-Expr ℕ ℕ ℕ expr_size_of_layer gen_size_of_layer part_size_of_layer

abbrev pub gen_size : Gen → ℕ
gen_size = fold-Gen ℕ ℕ ℕ expr_size_of_layer gen_size_of_layer part_size_of_layer

abbrev pub part_size : EventPart → ℕ
part_size = fold-EventPart ℕ ℕ ℕ expr_size_of_layer gen_size_of_layer part_size_of_layer

abbrev pub field_size : Field → ℕ
field_size (field.Put e) = 1 + expr_size e
field_size (field.Get x (Some s)) = 1 + expr_size s
field_size (field.Get x None) = 1

abbrev pub pair_size : EventPart × EventPart → ℕ
pair_size pair = 1 + part_size pair.0 + part_size pair.1

-- one layer of a process, with the sizes of its processes in their places
abbrev pub proc_size_of_layer : Proc-F ℕ → ℕ
proc_size_of_layer Proc-F.Stop = 1
proc_size_of_layer (Proc-F.Prefix head fields p) = 1 + total (map field_size fields) + p
proc_size_of_layer (Proc-F.Guard c p) = 1 + expr_size c + p
proc_size_of_layer (Proc-F.If c p q) = 1 + expr_size c + p + q
proc_size_of_layer (Proc-F.External ps) = 1 + total ps
proc_size_of_layer (Proc-F.Internal ps) = 1 + total ps
proc_size_of_layer (Proc-F.EachExternal x s p) = 1 + expr_size s + p
proc_size_of_layer (Proc-F.EachInternal x s p) = 1 + expr_size s + p
proc_size_of_layer (Proc-F.Hide p s) = 1 + p + expr_size s
proc_size_of_layer (Proc-F.Rename p pairs gens) = 1 + p + total (map pair_size pairs) + total (map gen_size gens)
proc_size_of_layer (Proc-F.Call d args) = 1 + total (map expr_size args)
proc_size_of_layer Proc-F.Skip = 1
proc_size_of_layer (Proc-F.Seq p q) = 1 + p + q
proc_size_of_layer Proc-F.Ended = 1

abbrev pub proc_size : Proc → ℕ
proc_size = fold-Proc ℕ proc_size_of_layer
