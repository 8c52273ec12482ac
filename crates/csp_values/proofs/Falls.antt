-- What the parts of a form weigh, and what a use of a definition costs.
use Rattle.csp_values.proofs.Prelude.{◌≡◌, ℕ, zero, suc, ◌+◌, ◌-◌, ◌<◌, ◌≤◌, List, [], ◌∷◌, Some, ap, sym, ◌∙◌, arith, slice_get, BinOp, SetOp, EventPart, Expr, Expr-F, out-EventPart, Gen, Content, Def}
use Rattle.csp_program.specs.declared.expressions.Expr.TheVariants as expr
use Rattle.csp_program.specs.declared.expressions.Gen.TheVariants as generator
use Rattle.csp_values.proofs.Weights as w
use Rattle.csp_values.proofs.Weights.{weight, weights, gen_weight, gen_weights, part_weight, part_weights, body_weight, cost}

pub weight-Neg : (a : Expr) → weight (expr.Neg a) ≡ weight a + 2
weight-Neg a = w.at (Expr-F.Neg a) (expr.rolls-Neg a)

pub weight-Not : (a : Expr) → weight (expr.Not a) ≡ weight a + 2
weight-Not a = w.at (Expr-F.Not a) (expr.rolls-Not a)

pub weight-Binary : (op : BinOp) (a b : Expr) → weight (expr.Binary op a b) ≡ weight a + weight b + 3
weight-Binary op a b = w.at (Expr-F.Binary op a b) (expr.rolls-Binary op a b)

pub weight-If : (c a b : Expr) → weight (expr.If c a b) ≡ weight c + weight a + weight b + 3
weight-If c a b = w.at (Expr-F.If c a b) (expr.rolls-If c a b)

pub weight-Call : (d : ℕ) (args : List Expr) → weight (expr.Call d args) ≡ weights args + 3
unfolding weights
weight-Call d args = w.at (Expr-F.Call d args) (expr.rolls-Call d args)

pub weight-SetName : (d : ℕ) → weight (expr.SetName d) ≡ 2
weight-SetName d = w.at (Expr-F.SetName d) (expr.rolls-SetName d)

pub weight-Event : (c : ℕ) (fields : List Expr) → weight (expr.Event c fields) ≡ weights fields + 6
unfolding weights
weight-Event c fields = w.at (Expr-F.Event c fields) (expr.rolls-Event c fields)

pub weight-Display : (items : List Expr) → weight (expr.Display items) ≡ weights items + 4
unfolding weights
weight-Display items = w.at (Expr-F.Display items) (expr.rolls-Display items)

pub weight-Range : (a b : Expr) → weight (expr.Range a b) ≡ weight a + weight b + 3
weight-Range a b = w.at (Expr-F.Range a b) (expr.rolls-Range a b)

pub weight-SetOp : (op : SetOp) (a b : Expr) → weight (expr.SetOp op a b) ≡ weight a + weight b + 3
weight-SetOp op a b = w.at (Expr-F.SetOp op a b) (expr.rolls-SetOp op a b)

pub weight-Comp : (items : List Expr) (gens : List Gen) → weight (expr.Comp items gens) ≡ weights items + part_weights [] + gen_weights gens + 7
unfolding weights gen_weights
weight-Comp items gens =
    let whole : weight (expr.Comp items gens) ≡ weights items + gen_weights gens + 7 = w.at (Expr-F.Comp items gens) (expr.rolls-Comp items gens) in
    omega (arith, w.part_weights-nil)

pub weight-Product : (parts : List EventPart) (gens : List Gen) → weight (expr.Product parts gens) ≡ part_weights parts + gen_weights gens + 8
unfolding part_weights gen_weights
weight-Product parts gens = w.at (Expr-F.Product parts gens) (expr.rolls-Product parts gens)

pub ruleset weight_forms = (weight-Neg, weight-Not, weight-Binary, weight-If, weight-Call, weight-SetName, weight-Event, weight-Display, weight-Range, weight-SetOp, weight-Comp, weight-Product)

pub weight_part : (part : EventPart) (fields : List Expr) → fields ≡ (out-EventPart part).fields → part_weight part ≡ weights fields + 5
weight_part part fields got = w.part_weight-is part ∙ ap (λ x. weights x + 5) (sym got)

pub use_falls : (p : Content) (n d : ℕ) (def : Def) → (n ≡ 0 → ⊥) → Some def ≡ slice_get p.defs d → cost p (n - 1) + body_weight def.body + 1 < cost p n
use_falls p n d def some is = w.cost-less p n (body_weight def.body) (omega arith) (w.body_in p.defs d def (sym is))

gen_in : (gens : List Gen) (place : ℕ) (g : Gen) → slice_get gens place ≡ Some g → gen_weight g ≤ gen_weights gens
gen_in [] place g is = absurd (cc)
gen_in (h ∷ gens) zero g is = let same : h ≡ g = cc in let same_weight : gen_weight h ≡ gen_weight g = ap gen_weight same in omega (arith, w.gen_weights-cons h gens)
gen_in (h ∷ gens) (suc place) g is = let below : gen_weight g ≤ gen_weights gens = gen_in gens place g is in omega (arith, w.gen_weights-cons h gens)

pub set_falls : (gens : List Gen) (place x : ℕ) (s : Expr) → slice_get gens place ≡ Some (generator.From x s) → weight s + 5 ≤ gen_weights gens
set_falls gens place x s is = let below : gen_weight (generator.From x s) ≤ gen_weights gens = gen_in gens place (generator.From x s) is in omega (arith, w.weight-From x s)

pub condition_falls : (gens : List Gen) (place : ℕ) (c : Expr) → slice_get gens place ≡ Some (generator.Cond c) → weight c + 5 ≤ gen_weights gens
condition_falls gens place c is = let below : gen_weight (generator.Cond c) ≤ gen_weights gens = gen_in gens place (generator.Cond c) is in omega (arith, w.weight-Cond c)
