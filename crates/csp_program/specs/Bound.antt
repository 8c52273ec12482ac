-- The numbers that an expression, a process, a network or a definition binds, in the order of the text: a parameter, the name of an input, that of a
-- generator, and that of a replicated choice or parallel. A number that is bound in two places stands here twice.
use Rattle.std.specs.Prelude.{ℕ, Some, None, List, [], ◌∷◌, ◌++◌, map}
use Rattle.csp_program.specs.Lists.{joined}
use Rattle.csp_program.specs.declared.expressions.EventPart.{EventPart}
use Rattle.csp_program.specs.declared.expressions.Expr.{Expr, fold-Expr}
use Rattle.csp_program.specs.declared.expressions.Expr.TheFolds.{fold-Gen, fold-EventPart}
use Rattle.csp_program.specs.declared.expressions.Expr.TheOpen.{Expr-F, Gen-F, EventPart-F}
use Rattle.csp_program.specs.declared.expressions.Gen.{Gen}
use Rattle.csp_program.specs.declared.networks.Net.{Net, fold-Net}
use Rattle.csp_program.specs.declared.networks.Net.TheOpen.{Net-F}
use Rattle.csp_program.specs.declared.processes.Field.{Field}
use Rattle.csp_program.specs.declared.processes.Field.TheVariants as field
use Rattle.csp_program.specs.declared.processes.Proc.{Proc, fold-Proc}
use Rattle.csp_program.specs.declared.processes.Proc.TheOpen.{Proc-F}
use Rattle.csp_program.specs.declared.programs.Body.{Body}
use Rattle.csp_program.specs.declared.programs.Body.TheVariants as body
use Rattle.csp_program.specs.declared.programs.Def.{Def}

abbrev pub Bound : Type 0
Bound = List ℕ

-- one layer of an expression, with what its parts bind in their places
abbrev pub expr_bound_of_layer : Expr-F Bound Bound Bound → Bound
expr_bound_of_layer (Expr-F.Neg a) = a
expr_bound_of_layer (Expr-F.Not a) = a
expr_bound_of_layer (Expr-F.Binary op a b) = a ++ b
expr_bound_of_layer (Expr-F.If c a b) = c ++ a ++ b
expr_bound_of_layer (Expr-F.Call d args) = joined args
expr_bound_of_layer (Expr-F.Event c fields) = joined fields
expr_bound_of_layer (Expr-F.Display items) = joined items
expr_bound_of_layer (Expr-F.Range a b) = a ++ b
expr_bound_of_layer (Expr-F.Comp items gens) = joined items ++ joined gens
expr_bound_of_layer (Expr-F.Product parts gens) = joined parts ++ joined gens
expr_bound_of_layer (Expr-F.SetOp op a b) = a ++ b
expr_bound_of_layer _ = []

abbrev pub gen_bound_of_layer : Gen-F Bound Bound Bound → Bound
gen_bound_of_layer (Gen-F.From x s) = x ∷ s
gen_bound_of_layer (Gen-F.Cond c) = c

abbrev pub part_bound_of_layer : EventPart-F Bound Bound Bound → Bound
part_bound_of_layer part = joined part.fields

abbrev pub expr_bound : Expr → Bound
expr_bound = fold-Expr Bound Bound Bound expr_bound_of_layer gen_bound_of_layer part_bound_of_layer

abbrev pub gen_bound : Gen → Bound
gen_bound = fold-Gen Bound Bound Bound expr_bound_of_layer gen_bound_of_layer part_bound_of_layer

abbrev pub part_bound : EventPart → Bound
part_bound = fold-EventPart Bound Bound Bound expr_bound_of_layer gen_bound_of_layer part_bound_of_layer

abbrev pub exprs_bound : List Expr → Bound
exprs_bound es = joined (map expr_bound es)

abbrev pub field_bound : Field → Bound
field_bound (field.Put e) = expr_bound e
field_bound (field.Get x None) = x ∷ []
field_bound (field.Get x (Some s)) = x ∷ expr_bound s

abbrev pub pair_bound : EventPart × EventPart → Bound
pair_bound pair = part_bound pair.0 ++ part_bound pair.1

abbrev pub proc_bound_of_layer : Proc-F Bound → Bound
proc_bound_of_layer (Proc-F.Prefix h fields p) = joined (map field_bound fields) ++ p
proc_bound_of_layer (Proc-F.Guard c p) = expr_bound c ++ p
proc_bound_of_layer (Proc-F.If c p q) = expr_bound c ++ p ++ q
proc_bound_of_layer (Proc-F.External ps) = joined ps
proc_bound_of_layer (Proc-F.Internal ps) = joined ps
proc_bound_of_layer (Proc-F.EachExternal x s p) = x ∷ expr_bound s ++ p
proc_bound_of_layer (Proc-F.EachInternal x s p) = x ∷ expr_bound s ++ p
proc_bound_of_layer (Proc-F.Hide p s) = p ++ expr_bound s
proc_bound_of_layer (Proc-F.Rename p pairs gens) = p ++ joined (map pair_bound pairs) ++ joined (map gen_bound gens)
proc_bound_of_layer (Proc-F.Call d args) = exprs_bound args
proc_bound_of_layer (Proc-F.Seq p q) = p ++ q
proc_bound_of_layer _ = []

abbrev pub proc_bound : Proc → Bound
proc_bound = fold-Proc Bound proc_bound_of_layer

abbrev pub net_bound_of_layer : Net-F Bound → Bound
net_bound_of_layer (Net-F.Leaf p) = proc_bound p
net_bound_of_layer (Net-F.Call d args) = exprs_bound args
net_bound_of_layer (Net-F.If c n m) = expr_bound c ++ n ++ m
net_bound_of_layer (Net-F.Pair n a b m) = n ++ expr_bound a ++ expr_bound b ++ m
net_bound_of_layer (Net-F.Each x s a n) = x ∷ expr_bound s ++ expr_bound a ++ n

abbrev pub net_bound : Net → Bound
net_bound = fold-Net Bound net_bound_of_layer

abbrev pub body_bound : Body → Bound
body_bound (body.Datum e) = expr_bound e
body_bound (body.Nametype e) = expr_bound e
body_bound (body.Datatype ks) = []
body_bound (body.Process p) = proc_bound p
body_bound (body.Network n) = net_bound n

abbrev pub def_bound : Def → Bound
def_bound def = def.params ++ body_bound def.body
