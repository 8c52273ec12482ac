-- Substitution: values in place of free names. Which names get a value is a function of names. Below a binding the bound name gets none.
use Rattle.std.specs.Prelude.{ℕ, nat_eq, if◌then◌else◌, Option, Some, None, List, [], ◌∷◌, map}
use Rattle.csp_atoms.specs.declared.value.Value.{Value}
use Rattle.csp_program.specs.Value.{Env}
use Rattle.csp_program.specs.declared.expressions.Expr.{Expr, fold-Expr}
use Rattle.csp_program.specs.declared.expressions.Expr.TheVariants as expr
use Rattle.csp_program.specs.declared.expressions.Expr.TheFolds.{fold-Gen, fold-EventPart, map-Expr}
use Rattle.csp_program.specs.declared.expressions.Expr.TheOpen.{Expr-F, Gen-F, EventPart-F}
use Rattle.csp_program.specs.declared.expressions.EventPart.{EventPart, roll-EventPart}
use Rattle.csp_program.specs.declared.expressions.Expr.TheViews.{roll-Expr}
use Rattle.csp_program.specs.declared.expressions.Gen.{Gen}
use Rattle.csp_program.specs.declared.expressions.Gen.TheVariants as generator
use Rattle.csp_program.specs.declared.processes.Field.{Field}
use Rattle.csp_program.specs.declared.processes.Field.TheVariants as field
use Rattle.csp_program.specs.declared.processes.Head.{Head}
use Rattle.csp_program.specs.declared.processes.Head.TheVariants as head
use Rattle.csp_program.specs.declared.processes.Proc.{Proc, fold-Proc}
use Rattle.csp_program.specs.declared.processes.Proc.TheFolds.{map-Proc}
use Rattle.csp_program.specs.declared.processes.Proc.TheVariants as proc
use Rattle.csp_program.specs.declared.processes.Proc.TheViews.{roll-Proc}
use Rattle.csp_program.specs.declared.processes.Proc.TheOpen.{Proc-F}

-- the value of each name that gets one
abbrev pub Given : Type 0
Given = ℕ → Option Value

-- the values of an environment: of two for one name the first one counts
abbrev pub given_by : Env → Given
given_by [] x = None
given_by (b ∷ env) x = if nat_eq b.0 x then Some b.1 else given_by env x

-- a value for one name
abbrev pub one : ℕ → Value → Given
one x v = given_by ((x, v) ∷ [])

-- the same values, but none for the name y
abbrev pub without : ℕ → Given → Given
without y given x = if nat_eq y x then None else given x

-- a part of an expression, with the values still to come
abbrev pub Open : Type 0 → Type 0
Open X = Given → X

-- a generator, with the values still to come; and those of them that are left under it
abbrev pub OpenGen : Type 0
OpenGen = Open Gen × (Given → Given)

-- generators from the left, each with the values that are left under those before it
abbrev pub gens_closed : List OpenGen → Given → List Gen
gens_closed [] given = []
gens_closed (g ∷ gs) given = g.0 given ∷ gens_closed gs (g.1 given)

-- the values that are left under generators
abbrev pub left_under : List OpenGen → Given → Given
left_under [] given = given
left_under (g ∷ gs) given = left_under gs (g.1 given)

abbrev pub each : {X : Type 0} → List (Open X) → Given → List X
each parts given = map (λ part. part given) parts

-- a name with the value that it gets
abbrev pub named : ℕ → Option Value → Expr
named x None = expr.Bound x
named x (Some v) = expr.Lit v

-- Generators bind names in what stands beside them. Every other form stays, with the values in its parts.
abbrev pub expr_with_of_layer : Expr-F (Open Expr) OpenGen (Open EventPart) → Open Expr
expr_with_of_layer (Expr-F.Bound x) given = named x (given x)
expr_with_of_layer (Expr-F.Comp items gens) given = expr.Comp (each items (left_under gens given)) (gens_closed gens given)
expr_with_of_layer (Expr-F.Product parts gens) given = expr.Product (each parts (left_under gens given)) (gens_closed gens given)
expr_with_of_layer d given = roll-Expr (map-Expr (Open Expr) OpenGen (Open EventPart) Expr Gen EventPart (λ e. e given) (λ g. g.0 given) (λ part. part given) d)

abbrev pub gen_with_of_layer : Gen-F (Open Expr) OpenGen (Open EventPart) → OpenGen
gen_with_of_layer (Gen-F.From y s) = (λ given. generator.From y (s given), without y)
gen_with_of_layer (Gen-F.Cond c) = (λ given. generator.Cond (c given), λ given. given)

abbrev pub part_with_of_layer : EventPart-F (Open Expr) OpenGen (Open EventPart) → Open EventPart
part_with_of_layer part given = roll-EventPart (record { channel = part.channel; fields = each part.fields given })

-- an expression with the values in place of its free names
abbrev pub expr_with : Given → Expr → Expr
expr_with given e = fold-Expr (Open Expr) OpenGen (Open EventPart) expr_with_of_layer gen_with_of_layer part_with_of_layer e given

abbrev pub part_with : Given → EventPart → EventPart
part_with given part = fold-EventPart (Open Expr) OpenGen (Open EventPart) expr_with_of_layer gen_with_of_layer part_with_of_layer part given

abbrev pub open_gen : Gen → OpenGen
open_gen = fold-Gen (Open Expr) OpenGen (Open EventPart) expr_with_of_layer gen_with_of_layer part_with_of_layer

abbrev pub gens_with : Given → List Gen → List Gen
gens_with given gens = gens_closed (map open_gen gens) given

-- the values that are left under the generators of a renaming
abbrev pub past : List Gen → Given → Given
past gens = left_under (map open_gen gens)

abbrev pub pair_with : Given → EventPart × EventPart → EventPart × EventPart
pair_with given pair = (part_with given pair.0, part_with given pair.1)

abbrev pub head_named : ℕ → Option Value → Head
head_named x None = head.Bound x
head_named x (Some v) = head.Put v

abbrev pub head_with : Given → Head → Head
head_with given (head.Channel c) = head.Channel c
head_with given (head.Bound x) = head_named x (given x)
head_with given (head.Put v) = head.Put v

abbrev pub field_with : Given → Field → Field
field_with given (field.Put e) = field.Put (expr_with given e)
field_with given (field.Get x None) = field.Get x None
field_with given (field.Get x (Some s)) = field.Get x (Some (expr_with given s))

-- the values that are left after a field
abbrev pub after : Field → Given → Given
after (field.Put e) given = given
after (field.Get x s) given = without x given

-- fields from the left, each with the values that are left after those before it
abbrev pub fields_with : Given → List Field → List Field
fields_with given [] = []
fields_with given (f ∷ fields) = field_with given f ∷ fields_with (after f given) fields

abbrev pub after_all : List Field → Given → Given
after_all [] given = given
after_all (f ∷ fields) given = after_all fields (after f given)

abbrev pub proc_with_of_layer : Proc-F (Open Proc) → Open Proc
proc_with_of_layer (Proc-F.Prefix h fields p) given = proc.Prefix (head_with given h) (fields_with given fields) (p (after_all fields given))
proc_with_of_layer (Proc-F.Guard c p) given = proc.Guard (expr_with given c) (p given)
proc_with_of_layer (Proc-F.If c p q) given = proc.If (expr_with given c) (p given) (q given)
proc_with_of_layer (Proc-F.EachExternal y s p) given = proc.EachExternal y (expr_with given s) (p (without y given))
proc_with_of_layer (Proc-F.EachInternal y s p) given = proc.EachInternal y (expr_with given s) (p (without y given))
proc_with_of_layer (Proc-F.Hide p s) given = proc.Hide (p given) (expr_with given s)
proc_with_of_layer (Proc-F.Rename p pairs gens) given = proc.Rename (p given) (map (pair_with (past gens given)) pairs) (gens_with given gens)
proc_with_of_layer (Proc-F.Call d args) given = proc.Call d (map (expr_with given) args)
proc_with_of_layer d given = roll-Proc (map-Proc (Open Proc) Proc (λ p. p given) d)

-- a process with the values in place of its free names
abbrev pub proc_with : Given → Proc → Proc
proc_with given t = fold-Proc (Open Proc) proc_with_of_layer t given
