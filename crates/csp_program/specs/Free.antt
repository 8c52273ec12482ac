-- The names that are free in an expression, a process or a network. A generator binds its name in the parts of the list after it and in what the
-- list stands beside; an input binds its name in the fields after it and in the process after the prefix. The set that a name ranges over stands
-- outside of its binding.
use Rattle.std.specs.Prelude.{◌≡◌, ℕ, Bool, false, not, ◌&&◌, ◌||◌, nat_eq, Some, None, List, [], ◌∷◌, map}
use Rattle.csp_program.specs.declared.expressions.Expr.{Expr, fold-Expr}
use Rattle.csp_program.specs.declared.expressions.Expr.TheFolds.{fold-Gen, fold-EventPart}
use Rattle.csp_program.specs.declared.expressions.Expr.TheOpen.{Expr-F, Gen-F, EventPart-F}
use Rattle.csp_program.specs.declared.expressions.EventPart.{EventPart}
use Rattle.csp_program.specs.declared.expressions.Gen.{Gen}
use Rattle.csp_program.specs.declared.networks.Net.{Net, fold-Net}
use Rattle.csp_program.specs.declared.networks.Net.TheOpen.{Net-F}
use Rattle.csp_program.specs.declared.processes.Field.{Field}
use Rattle.csp_program.specs.declared.processes.Field.TheVariants as field
use Rattle.csp_program.specs.declared.processes.Head.{Head}
use Rattle.csp_program.specs.declared.processes.Head.TheVariants as head
use Rattle.csp_program.specs.declared.processes.Proc.{Proc, fold-Proc}
use Rattle.csp_program.specs.declared.processes.Proc.TheOpen.{Proc-F}

-- whether each name is among a set of names
abbrev pub Names : Type 0
Names = ℕ → Bool

abbrev pub nowhere : Names
nowhere x = false

abbrev pub either : Names → Names → Names
either a b x = a x || b x

-- the names of a, apart from the name y
abbrev pub apart_from : ℕ → Names → Names
apart_from y a x = not (nat_eq y x) && a x

abbrev pub any_of : List Names → Names
any_of [] = nowhere
any_of (a ∷ rest) = either a (any_of rest)

-- what a generator reads, and what it binds
abbrev pub Binding : Type 0
Binding = Names × Names

-- what a list of generators reads, beside names that stand under all of them
abbrev pub under : List Binding → Names → Names
under [] inner = inner
under (g ∷ gs) inner = λ x. g.0 x || (not (g.1 x) && under gs inner x)

abbrev pub expr_free_of_layer : Expr-F Names Binding Names → Names
expr_free_of_layer (Expr-F.Num n) = nowhere
expr_free_of_layer (Expr-F.Truth b) = nowhere
expr_free_of_layer (Expr-F.Const k) = nowhere
expr_free_of_layer (Expr-F.Bound y) = λ x. nat_eq y x
expr_free_of_layer (Expr-F.Lit v) = nowhere
expr_free_of_layer (Expr-F.Neg a) = a
expr_free_of_layer (Expr-F.Not a) = a
expr_free_of_layer (Expr-F.Binary op a b) = either a b
expr_free_of_layer (Expr-F.If c a b) = either c (either a b)
expr_free_of_layer (Expr-F.Call d args) = any_of args
expr_free_of_layer (Expr-F.SetName d) = nowhere
expr_free_of_layer (Expr-F.Event c fields) = any_of fields
expr_free_of_layer (Expr-F.Display items) = any_of items
expr_free_of_layer (Expr-F.Range a b) = either a b
expr_free_of_layer (Expr-F.Comp items gens) = under gens (any_of items)
expr_free_of_layer (Expr-F.Product parts gens) = under gens (any_of parts)
expr_free_of_layer (Expr-F.SetOp op a b) = either a b

abbrev pub gen_free_of_layer : Gen-F Names Binding Names → Binding
gen_free_of_layer (Gen-F.From y s) = (s, λ x. nat_eq y x)
gen_free_of_layer (Gen-F.Cond c) = (c, nowhere)

abbrev pub part_free_of_layer : EventPart-F Names Binding Names → Names
part_free_of_layer part = any_of part.fields

abbrev pub expr_free : Expr → Names
expr_free = fold-Expr Names Binding Names expr_free_of_layer gen_free_of_layer part_free_of_layer

abbrev pub gen_binding : Gen → Binding
gen_binding = fold-Gen Names Binding Names expr_free_of_layer gen_free_of_layer part_free_of_layer

abbrev pub part_free : EventPart → Names
part_free = fold-EventPart Names Binding Names expr_free_of_layer gen_free_of_layer part_free_of_layer

abbrev pub head_free : Head → Names
head_free (head.Channel c) = nowhere
head_free (head.Bound y) = λ x. nat_eq y x
head_free (head.Put v) = nowhere

-- what the fields of a prefix read, beside names that stand after them
abbrev pub before : List Field → Names → Names
before [] inner = inner
before (field.Put e ∷ fields) inner = either (expr_free e) (before fields inner)
before (field.Get y (Some s) ∷ fields) inner = either (expr_free s) (apart_from y (before fields inner))
before (field.Get y None ∷ fields) inner = apart_from y (before fields inner)

abbrev pub pair_free : EventPart × EventPart → Names
pair_free pair = either (part_free pair.0) (part_free pair.1)

abbrev pub proc_free_of_layer : Proc-F Names → Names
proc_free_of_layer Proc-F.Stop = nowhere
proc_free_of_layer (Proc-F.Prefix h fields p) = either (head_free h) (before fields p)
proc_free_of_layer (Proc-F.Guard c p) = either (expr_free c) p
proc_free_of_layer (Proc-F.If c p q) = either (expr_free c) (either p q)
proc_free_of_layer (Proc-F.External ps) = any_of ps
proc_free_of_layer (Proc-F.Internal ps) = any_of ps
proc_free_of_layer (Proc-F.EachExternal y s p) = either (expr_free s) (apart_from y p)
proc_free_of_layer (Proc-F.EachInternal y s p) = either (expr_free s) (apart_from y p)
proc_free_of_layer (Proc-F.Hide p s) = either p (expr_free s)
proc_free_of_layer (Proc-F.Rename p pairs gens) = either p (under (map gen_binding gens) (any_of (map pair_free pairs)))
proc_free_of_layer (Proc-F.Call d args) = any_of (map expr_free args)
proc_free_of_layer Proc-F.Skip = nowhere
proc_free_of_layer (Proc-F.Seq p q) = either p q
proc_free_of_layer Proc-F.Ended = nowhere

abbrev pub proc_free : Proc → Names
proc_free = fold-Proc Names proc_free_of_layer

abbrev pub net_free_of_layer : Net-F Names → Names
net_free_of_layer (Net-F.Leaf p) = proc_free p
net_free_of_layer (Net-F.Call d args) = any_of (map expr_free args)
net_free_of_layer (Net-F.If c n m) = either (expr_free c) (either n m)
net_free_of_layer (Net-F.Pair n a b m) = either n (either (expr_free a) (either (expr_free b) m))
net_free_of_layer (Net-F.Each y s a n) = either (expr_free s) (apart_from y (either (expr_free a) n))

abbrev pub net_free : Net → Names
net_free = fold-Net Names net_free_of_layer

-- no name is free in it
abbrev pub IsClosed : Names → Type 0
IsClosed free = (x : ℕ) → free x ≡ false
