-- What a substitution makes of each form of an expression and of a process: again a form. One that is new gets a clause of `expr_form` and `expr_made`, or
-- of `proc_form` and `proc_made`.
use Rattle.substitution.proofs.Prelude.{out-Expr, roll-out-Expr, out-Proc, roll-out-Proc, ◌≡◌, ℕ, Option, Some, None, List, [], ◌∷◌, map, refl, ap, sym, ◌∙◌, Value, after_all, each, expr_with, expr_with_of_layer, fields_with, gen_with_of_layer, gens_with, head_with, named, open_gen, pair_with, part_with, part_with_of_layer, past, proc_with, proc_with_of_layer, without, Given, Open, OpenGen, EventPart, Expr, fold-roll-Expr, fold-roll-EventPart, fold-roll-Gen, map-Expr, map-Gen, Expr-F, EventPart-F, Gen-F, out-EventPart, roll-Expr, roll-EventPart, roll-Gen, roll-out-EventPart, Gen, Proc, fold-roll-Proc, map-Proc, Proc-F, roll-Proc}
use Rattle.csp_program.specs.Substitution.{gens_closed, left_under}
use Rattle.csp_program.specs.declared.expressions.Expr.TheVariants as expr
use Rattle.csp_program.specs.declared.expressions.Gen.TheVariants as generator
use Rattle.csp_program.specs.declared.processes.Proc.TheVariants as proc

-- parts with the same values
each_made : {X : Type 0} (of_each : X → Open X) (given : Given) (xs : List X) → each (map of_each xs) given ≡ map (λ x. of_each x given) xs
each_made of_each given [] = refl
each_made of_each given (x ∷ xs) = λ i. of_each x given ∷ each_made of_each given xs i

-- ---- expressions

abbrev open_expr : Expr → Open Expr
open_expr e given = expr_with given e

abbrev open_part : EventPart → Open EventPart
open_part part given = part_with given part

abbrev pub named_form : ℕ → Option Value → Expr-F Expr Gen EventPart
named_form x None = Expr-F.Bound x
named_form x (Some v) = Expr-F.Lit v

name_rolls : (x : ℕ) (found : Option Value) → roll-Expr (named_form x found) ≡ named x found
name_rolls x None = expr.rolls-Bound x
name_rolls x (Some v) = expr.rolls-Lit v

abbrev pub expr_form : Given → Expr-F Expr Gen EventPart → Expr-F Expr Gen EventPart
expr_form given (Expr-F.Bound x) = named_form x (given x)
expr_form given (Expr-F.Neg a) = Expr-F.Neg (expr_with given a)
expr_form given (Expr-F.Not a) = Expr-F.Not (expr_with given a)
expr_form given (Expr-F.Binary op a b) = Expr-F.Binary op (expr_with given a) (expr_with given b)
expr_form given (Expr-F.If c a b) = Expr-F.If (expr_with given c) (expr_with given a) (expr_with given b)
expr_form given (Expr-F.Call d args) = Expr-F.Call d (map (expr_with given) args)
expr_form given (Expr-F.Event c fields) = Expr-F.Event c (map (expr_with given) fields)
expr_form given (Expr-F.Display items) = Expr-F.Display (map (expr_with given) items)
expr_form given (Expr-F.Range a b) = Expr-F.Range (expr_with given a) (expr_with given b)
expr_form given (Expr-F.Comp items gens) = Expr-F.Comp (map (expr_with (past gens given)) items) (gens_with given gens)
expr_form given (Expr-F.Product parts gens) = Expr-F.Product (map (part_with (past gens given)) parts) (gens_with given gens)
expr_form given (Expr-F.SetOp op a b) = Expr-F.SetOp op (expr_with given a) (expr_with given b)
expr_form given d = d

expr_made : (given : Given) (d : Expr-F Expr Gen EventPart)
    → expr_with_of_layer (map-Expr Expr Gen EventPart (Open Expr) OpenGen (Open EventPart) open_expr open_gen open_part d) given ≡ roll-Expr (expr_form given d)
expr_made given (Expr-F.Bound x) = sym (name_rolls x (given x))
expr_made given (Expr-F.Call d args) = λ i. roll-Expr (Expr-F.Call d (each_made open_expr given args i))
expr_made given (Expr-F.Event c fields) = λ i. roll-Expr (Expr-F.Event c (each_made open_expr given fields i))
expr_made given (Expr-F.Display items) = λ i. roll-Expr (Expr-F.Display (each_made open_expr given items i))
expr_made given (Expr-F.Comp items gens) = (λ i. expr.Comp (each_made open_expr (past gens given) items i) (gens_with given gens)) ∙ sym (expr.rolls-Comp (map (expr_with (past gens given)) items) (gens_with given gens))
expr_made given (Expr-F.Product parts gens) = (λ i. expr.Product (each_made open_part (past gens given) parts i) (gens_with given gens)) ∙ sym (expr.rolls-Product (map (part_with (past gens given)) parts) (gens_with given gens))
expr_made given d = refl

pub expr_is : (given : Given) (d : Expr-F Expr Gen EventPart) → expr_with given (roll-Expr d) ≡ roll-Expr (expr_form given d)
expr_is given d = (λ i. fold-roll-Expr (Open Expr) OpenGen (Open EventPart) expr_with_of_layer gen_with_of_layer part_with_of_layer d i given) ∙ expr_made given d

-- what a substitution makes of the form of an expression, as a variant
abbrev pub expr_by_form : Expr-F (Open Expr) OpenGen (Open EventPart) → Open Expr
expr_by_form (Expr-F.Num n) given = expr.Num n
expr_by_form (Expr-F.Truth b) given = expr.Truth b
expr_by_form (Expr-F.Const k) given = expr.Const k
expr_by_form (Expr-F.Bound x) given = named x (given x)
expr_by_form (Expr-F.Lit v) given = expr.Lit v
expr_by_form (Expr-F.Neg a) given = expr.Neg (a given)
expr_by_form (Expr-F.Not a) given = expr.Not (a given)
expr_by_form (Expr-F.Binary op a b) given = expr.Binary op (a given) (b given)
expr_by_form (Expr-F.If c a b) given = expr.If (c given) (a given) (b given)
expr_by_form (Expr-F.Call d args) given = expr.Call d (each args given)
expr_by_form (Expr-F.SetName d) given = expr.SetName d
expr_by_form (Expr-F.Event c fields) given = expr.Event c (each fields given)
expr_by_form (Expr-F.Display items) given = expr.Display (each items given)
expr_by_form (Expr-F.Range a b) given = expr.Range (a given) (b given)
expr_by_form (Expr-F.Comp items gens) given = expr.Comp (each items (left_under gens given)) (gens_closed gens given)
expr_by_form (Expr-F.Product parts gens) given = expr.Product (each parts (left_under gens given)) (gens_closed gens given)
expr_by_form (Expr-F.SetOp op a b) given = expr.SetOp op (a given) (b given)

expr_same : (d : Expr-F (Open Expr) OpenGen (Open EventPart)) (given : Given) → expr_with_of_layer d given ≡ expr_by_form d given
expr_same (Expr-F.Num n) given = expr.rolls-Num n
expr_same (Expr-F.Truth b) given = expr.rolls-Truth b
expr_same (Expr-F.Const k) given = expr.rolls-Const k
expr_same (Expr-F.Lit v) given = expr.rolls-Lit v
expr_same (Expr-F.Neg a) given = expr.rolls-Neg (a given)
expr_same (Expr-F.Not a) given = expr.rolls-Not (a given)
expr_same (Expr-F.Binary op a b) given = expr.rolls-Binary op (a given) (b given)
expr_same (Expr-F.If c a b) given = expr.rolls-If (c given) (a given) (b given)
expr_same (Expr-F.Call d args) given = expr.rolls-Call d (each args given)
expr_same (Expr-F.SetName d) given = expr.rolls-SetName d
expr_same (Expr-F.Event c fields) given = expr.rolls-Event c (each fields given)
expr_same (Expr-F.Display items) given = expr.rolls-Display (each items given)
expr_same (Expr-F.Range a b) given = expr.rolls-Range (a given) (b given)
expr_same (Expr-F.SetOp op a b) given = expr.rolls-SetOp op (a given) (b given)
expr_same d given = refl

-- an expression with the values, by its form
pub expr_out : (given : Given) (e : Expr) → expr_with given e ≡ expr_by_form (map-Expr Expr Gen EventPart (Open Expr) OpenGen (Open EventPart) open_expr open_gen open_part (out-Expr e)) given
expr_out given e =
    ap (expr_with given) (sym (roll-out-Expr e)) ∙ ((λ i. fold-roll-Expr (Open Expr) OpenGen (Open EventPart) expr_with_of_layer gen_with_of_layer part_with_of_layer (out-Expr e) i given) ∙
    expr_same (map-Expr Expr Gen EventPart (Open Expr) OpenGen (Open EventPart) open_expr open_gen open_part (out-Expr e)) given)

-- of those whose parts are lists
at : (given : Given) (d : Expr-F Expr Gen EventPart) {e e' : Expr} → roll-Expr d ≡ e → roll-Expr (expr_form given d) ≡ e' → expr_with given e ≡ e'
at given d r r' = ap (expr_with given) (sym r) ∙ (expr_is given d ∙ r')

pub expr_with-Call : (given : Given) (d : ℕ) (args : List Expr) → expr_with given (expr.Call d args) ≡ expr.Call d (map (expr_with given) args)
expr_with-Call given d args = at given (Expr-F.Call d args) (expr.rolls-Call d args) (expr.rolls-Call d (map (expr_with given) args))

pub expr_with-Event : (given : Given) (c : ℕ) (fields : List Expr) → expr_with given (expr.Event c fields) ≡ expr.Event c (map (expr_with given) fields)
expr_with-Event given c fields = at given (Expr-F.Event c fields) (expr.rolls-Event c fields) (expr.rolls-Event c (map (expr_with given) fields))

pub expr_with-Display : (given : Given) (items : List Expr) → expr_with given (expr.Display items) ≡ expr.Display (map (expr_with given) items)
expr_with-Display given items = at given (Expr-F.Display items) (expr.rolls-Display items) (expr.rolls-Display (map (expr_with given) items))

pub expr_with-Comp : (given : Given) (items : List Expr) (gens : List Gen) → expr_with given (expr.Comp items gens) ≡ expr.Comp (map (expr_with (past gens given)) items) (gens_with given gens)
expr_with-Comp given items gens = at given (Expr-F.Comp items gens) (expr.rolls-Comp items gens) (expr.rolls-Comp (map (expr_with (past gens given)) items) (gens_with given gens))

pub expr_with-Product : (given : Given) (parts : List EventPart) (gens : List Gen) → expr_with given (expr.Product parts gens) ≡ expr.Product (map (part_with (past gens given)) parts) (gens_with given gens)
expr_with-Product given parts gens = at given (Expr-F.Product parts gens) (expr.rolls-Product parts gens) (expr.rolls-Product (map (part_with (past gens given)) parts) (gens_with given gens))

-- ---- generators and fronts of events

gen_made : (d : Gen-F Expr Gen EventPart) → open_gen (roll-Gen d) ≡ gen_with_of_layer (map-Gen Expr Gen EventPart (Open Expr) OpenGen (Open EventPart) open_expr open_gen open_part d)
gen_made = fold-roll-Gen (Open Expr) OpenGen (Open EventPart) expr_with_of_layer gen_with_of_layer part_with_of_layer

pub open_gen-From : (y : ℕ) (s : Expr) → open_gen (generator.From y s) ≡ (λ given. generator.From y (expr_with given s), without y)
open_gen-From y s = ap open_gen (sym (generator.rolls-From y s)) ∙ gen_made (Gen-F.From y s)

pub open_gen-Cond : (c : Expr) → open_gen (generator.Cond c) ≡ (λ given. generator.Cond (expr_with given c), λ given. given)
open_gen-Cond c = ap open_gen (sym (generator.rolls-Cond c)) ∙ gen_made (Gen-F.Cond c)

abbrev pub gen_form : Given → Gen-F Expr Gen EventPart → Gen-F Expr Gen EventPart
gen_form given (Gen-F.From y s) = Gen-F.From y (expr_with given s)
gen_form given (Gen-F.Cond c) = Gen-F.Cond (expr_with given c)

pub gen_is : (given : Given) (d : Gen-F Expr Gen EventPart) → (open_gen (roll-Gen d)).0 given ≡ roll-Gen (gen_form given d)
gen_is given (Gen-F.From y s) = (λ i. (gen_made (Gen-F.From y s) i).0 given) ∙ sym (generator.rolls-From y (expr_with given s))
gen_is given (Gen-F.Cond c) = (λ i. (gen_made (Gen-F.Cond c) i).0 given) ∙ sym (generator.rolls-Cond (expr_with given c))

-- the values that a generator leaves
abbrev pub left_by : Gen-F Expr Gen EventPart → Given → Given
left_by (Gen-F.From y s) = without y
left_by (Gen-F.Cond c) = λ given. given

pub left_is : (d : Gen-F Expr Gen EventPart) → (open_gen (roll-Gen d)).1 ≡ left_by d
left_is (Gen-F.From y s) = λ i. (gen_made (Gen-F.From y s) i).1
left_is (Gen-F.Cond c) = λ i. (gen_made (Gen-F.Cond c) i).1

abbrev pub part_form : Given → EventPart-F Expr Gen EventPart → EventPart-F Expr Gen EventPart
part_form given d = record { channel = d.channel; fields = map (expr_with given) d.fields }

pub part_is : (given : Given) (d : EventPart-F Expr Gen EventPart)
    → part_with given (roll-EventPart d) ≡ roll-EventPart (part_form given d)
part_is given d =
    (λ i. fold-roll-EventPart (Open Expr) OpenGen (Open EventPart) expr_with_of_layer gen_with_of_layer part_with_of_layer d i given) ∙
    (λ i. roll-EventPart (record { channel = d.channel; fields = each_made open_expr given d.fields i }))

pub part_with-fields : (given : Given) (part : EventPart)
    → part_with given part ≡ roll-EventPart (record { channel = (out-EventPart part).channel; fields = map (expr_with given) (out-EventPart part).fields })
part_with-fields given part = ap (part_with given) (sym (roll-out-EventPart part)) ∙ part_is given (out-EventPart part)

pub ruleset gen_forms = (open_gen-From, open_gen-Cond)

pub ruleset part_forms = (part_with-fields)

-- ---- processes

abbrev open_proc : Proc → Open Proc
open_proc p given = proc_with given p

abbrev pub proc_form : Given → Proc-F Proc → Proc-F Proc
proc_form given (Proc-F.Prefix h fields p) = Proc-F.Prefix (head_with given h) (fields_with given fields) (proc_with (after_all fields given) p)
proc_form given (Proc-F.Guard c p) = Proc-F.Guard (expr_with given c) (proc_with given p)
proc_form given (Proc-F.If c p q) = Proc-F.If (expr_with given c) (proc_with given p) (proc_with given q)
proc_form given (Proc-F.External ps) = Proc-F.External (map (proc_with given) ps)
proc_form given (Proc-F.Internal ps) = Proc-F.Internal (map (proc_with given) ps)
proc_form given (Proc-F.EachExternal y s p) = Proc-F.EachExternal y (expr_with given s) (proc_with (without y given) p)
proc_form given (Proc-F.EachInternal y s p) = Proc-F.EachInternal y (expr_with given s) (proc_with (without y given) p)
proc_form given (Proc-F.Hide p s) = Proc-F.Hide (proc_with given p) (expr_with given s)
proc_form given (Proc-F.Rename p pairs gens) = Proc-F.Rename (proc_with given p) (map (pair_with (past gens given)) pairs) (gens_with given gens)
proc_form given (Proc-F.Call d args) = Proc-F.Call d (map (expr_with given) args)
proc_form given (Proc-F.Seq p q) = Proc-F.Seq (proc_with given p) (proc_with given q)
proc_form given d = d

proc_made : (given : Given) (d : Proc-F Proc) → proc_with_of_layer (map-Proc Proc (Open Proc) open_proc d) given ≡ roll-Proc (proc_form given d)
proc_made given (Proc-F.Prefix h fields p) = sym (proc.rolls-Prefix (head_with given h) (fields_with given fields) (proc_with (after_all fields given) p))
proc_made given (Proc-F.Guard c p) = sym (proc.rolls-Guard (expr_with given c) (proc_with given p))
proc_made given (Proc-F.If c p q) = sym (proc.rolls-If (expr_with given c) (proc_with given p) (proc_with given q))
proc_made given (Proc-F.External ps) = λ i. roll-Proc (Proc-F.External (each_made open_proc given ps i))
proc_made given (Proc-F.Internal ps) = λ i. roll-Proc (Proc-F.Internal (each_made open_proc given ps i))
proc_made given (Proc-F.EachExternal y s p) = sym (proc.rolls-EachExternal y (expr_with given s) (proc_with (without y given) p))
proc_made given (Proc-F.EachInternal y s p) = sym (proc.rolls-EachInternal y (expr_with given s) (proc_with (without y given) p))
proc_made given (Proc-F.Hide p s) = sym (proc.rolls-Hide (proc_with given p) (expr_with given s))
proc_made given (Proc-F.Rename p pairs gens) = sym (proc.rolls-Rename (proc_with given p) (map (pair_with (past gens given)) pairs) (gens_with given gens))
proc_made given (Proc-F.Call d args) = sym (proc.rolls-Call d (map (expr_with given) args))
proc_made given d = refl

pub proc_is : (given : Given) (d : Proc-F Proc) → proc_with given (roll-Proc d) ≡ roll-Proc (proc_form given d)
proc_is given d = (λ i. fold-roll-Proc (Open Proc) proc_with_of_layer d i given) ∙ proc_made given d

-- what a substitution makes of the form of a process, as a variant
abbrev pub proc_by_form : Proc-F (Open Proc) → Open Proc
proc_by_form Proc-F.Stop given = proc.Stop
proc_by_form (Proc-F.Prefix h fields p) given = proc.Prefix (head_with given h) (fields_with given fields) (p (after_all fields given))
proc_by_form (Proc-F.Guard c p) given = proc.Guard (expr_with given c) (p given)
proc_by_form (Proc-F.If c p q) given = proc.If (expr_with given c) (p given) (q given)
proc_by_form (Proc-F.External ps) given = proc.External (each ps given)
proc_by_form (Proc-F.Internal ps) given = proc.Internal (each ps given)
proc_by_form (Proc-F.EachExternal y s p) given = proc.EachExternal y (expr_with given s) (p (without y given))
proc_by_form (Proc-F.EachInternal y s p) given = proc.EachInternal y (expr_with given s) (p (without y given))
proc_by_form (Proc-F.Hide p s) given = proc.Hide (p given) (expr_with given s)
proc_by_form (Proc-F.Rename p pairs gens) given = proc.Rename (p given) (map (pair_with (past gens given)) pairs) (gens_with given gens)
proc_by_form (Proc-F.Call d args) given = proc.Call d (map (expr_with given) args)
proc_by_form Proc-F.Skip given = proc.Skip
proc_by_form (Proc-F.Seq p q) given = proc.Seq (p given) (q given)
proc_by_form Proc-F.Ended given = proc.Ended

proc_same : (d : Proc-F (Open Proc)) (given : Given) → proc_with_of_layer d given ≡ proc_by_form d given
proc_same Proc-F.Stop given = proc.rolls-Stop
proc_same (Proc-F.External ps) given = proc.rolls-External (each ps given)
proc_same (Proc-F.Internal ps) given = proc.rolls-Internal (each ps given)
proc_same Proc-F.Skip given = proc.rolls-Skip
proc_same (Proc-F.Seq p q) given = proc.rolls-Seq (p given) (q given)
proc_same Proc-F.Ended given = proc.rolls-Ended
proc_same d given = refl

-- a process with the values, by its form
pub proc_out : (given : Given) (p : Proc) → proc_with given p ≡ proc_by_form (map-Proc Proc (Open Proc) open_proc (out-Proc p)) given
proc_out given p =
    ap (proc_with given) (sym (roll-out-Proc p)) ∙ ((λ i. fold-roll-Proc (Open Proc) proc_with_of_layer (out-Proc p) i given) ∙ proc_same (map-Proc Proc (Open Proc) open_proc (out-Proc p)) given)

-- of those whose parts are lists
at_proc : (given : Given) (d : Proc-F Proc) {p p' : Proc} → roll-Proc d ≡ p → roll-Proc (proc_form given d) ≡ p' → proc_with given p ≡ p'
at_proc given d r r' = ap (proc_with given) (sym r) ∙ (proc_is given d ∙ r')

pub proc_with-External : (given : Given) (ps : List Proc) → proc_with given (proc.External ps) ≡ proc.External (map (proc_with given) ps)
proc_with-External given ps = at_proc given (Proc-F.External ps) (proc.rolls-External ps) (proc.rolls-External (map (proc_with given) ps))

pub proc_with-Internal : (given : Given) (ps : List Proc) → proc_with given (proc.Internal ps) ≡ proc.Internal (map (proc_with given) ps)
proc_with-Internal given ps = at_proc given (Proc-F.Internal ps) (proc.rolls-Internal ps) (proc.rolls-Internal (map (proc_with given) ps))

pub proc_with-Call : (given : Given) (d : ℕ) (args : List Expr) → proc_with given (proc.Call d args) ≡ proc.Call d (map (expr_with given) args)
proc_with-Call given d args = at_proc given (Proc-F.Call d args) (proc.rolls-Call d args) (proc.rolls-Call d (map (expr_with given) args))
