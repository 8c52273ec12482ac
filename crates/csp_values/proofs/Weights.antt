-- A weight for evaluation: each call that it makes is for less. A use of a definition costs more than any body weighs.
use Rattle.csp_values.proofs.Prelude.{◌≡◌, ℕ, zero, suc, ◌+◌, ◌-◌, ◌*◌, ◌<◌, ◌≤◌, List, [], ◌∷◌, Some, map, length, get_or, refl, ap, sym, ◌∙◌, arith, slice_get, EventPart, Expr, fold-Expr, fold-Gen, fold-EventPart, fold-roll-Expr, fold-roll-Gen, fold-roll-EventPart, map-Expr, Expr-F, Gen-F, EventPart-F, out-EventPart, roll-Expr, roll-out-EventPart, Gen, Content, Def, Body, total}
use Rattle.csp_program.specs.declared.expressions.Gen.TheVariants as generator
use Rattle.csp_program.specs.declared.programs.Body.TheVariants as body

abbrev pub of_expr : Expr-F ℕ ℕ ℕ → ℕ
of_expr (Expr-F.Neg a) = a + 2
of_expr (Expr-F.Not a) = a + 2
of_expr (Expr-F.Binary op a b) = a + b + 3
of_expr (Expr-F.If c a b) = c + a + b + 3
of_expr (Expr-F.Call d args) = total args + 3
of_expr (Expr-F.SetName d) = 2
of_expr (Expr-F.Event c fields) = total fields + 6
of_expr (Expr-F.Display items) = total items + 4
of_expr (Expr-F.Range a b) = a + b + 3
of_expr (Expr-F.Comp items gens) = total items + total gens + 7
of_expr (Expr-F.Product parts gens) = total parts + total gens + 8
of_expr (Expr-F.SetOp op a b) = a + b + 3
of_expr _ = 1

abbrev of_gen : Gen-F ℕ ℕ ℕ → ℕ
of_gen (Gen-F.From x s) = s + 5
of_gen (Gen-F.Cond c) = c + 5

abbrev of_part : EventPart-F ℕ ℕ ℕ → ℕ
of_part part = total part.fields + 5

unfoldable pub weight : Expr → ℕ
weight = fold-Expr ℕ ℕ ℕ of_expr of_gen of_part

unfoldable pub gen_weight : Gen → ℕ
gen_weight = fold-Gen ℕ ℕ ℕ of_expr of_gen of_part

unfoldable pub part_weight : EventPart → ℕ
part_weight = fold-EventPart ℕ ℕ ℕ of_expr of_gen of_part

unfoldable pub weights : List Expr → ℕ
weights es = total (map weight es)

unfoldable pub gen_weights : List Gen → ℕ
gen_weights gs = total (map gen_weight gs)

unfoldable pub part_weights : List EventPart → ℕ
part_weights ps = total (map part_weight ps)

-- what a form weighs, in terms of its parts
pub at : (d : Expr-F Expr Gen EventPart) {e : Expr} → roll-Expr d ≡ e → weight e ≡ of_expr (map-Expr Expr Gen EventPart ℕ ℕ ℕ weight gen_weight part_weight d)
unfolding weight gen_weight part_weight
at d is = ap (fold-Expr ℕ ℕ ℕ of_expr of_gen of_part) (sym is) ∙ fold-roll-Expr ℕ ℕ ℕ of_expr of_gen of_part d

pub weight-From : (x : ℕ) (s : Expr) → gen_weight (generator.From x s) ≡ weight s + 5
unfolding weight gen_weight
weight-From x s = ap (fold-Gen ℕ ℕ ℕ of_expr of_gen of_part) (sym (generator.rolls-From x s)) ∙ fold-roll-Gen ℕ ℕ ℕ of_expr of_gen of_part (Gen-F.From x s)

pub weight-Cond : (c : Expr) → gen_weight (generator.Cond c) ≡ weight c + 5
unfolding weight gen_weight
weight-Cond c = ap (fold-Gen ℕ ℕ ℕ of_expr of_gen of_part) (sym (generator.rolls-Cond c)) ∙ fold-roll-Gen ℕ ℕ ℕ of_expr of_gen of_part (Gen-F.Cond c)

pub part_weight-is : (part : EventPart) → part_weight part ≡ weights (out-EventPart part).fields + 5
unfolding weight part_weight weights
part_weight-is part = ap (fold-EventPart ℕ ℕ ℕ of_expr of_gen of_part) (sym (roll-out-EventPart part)) ∙ fold-roll-EventPart ℕ ℕ ℕ of_expr of_gen of_part (out-EventPart part)

pub weights-cons : (e : Expr) (es : List Expr) → weights (e ∷ es) ≡ weight e + weights es
unfolding weights
weights-cons e es = refl

pub weights-nil : weights [] ≡ 0
unfolding weights
weights-nil = refl

pub gen_weights-cons : (g : Gen) (gs : List Gen) → gen_weights (g ∷ gs) ≡ gen_weight g + gen_weights gs
unfolding gen_weights
gen_weights-cons g gs = refl

pub part_weights-cons : (p : EventPart) (ps : List EventPart) → part_weights (p ∷ ps) ≡ part_weight p + part_weights ps
unfolding part_weights
part_weights-cons p ps = refl

pub part_weights-nil : part_weights [] ≡ 0
unfolding part_weights
part_weights-nil = refl

-- an element weighs no more than its list
pub weight_in : (es : List Expr) (i : ℕ) (e : Expr) → i < length es → e ≡ get_or es i e → weight e ≤ weights es
weight_in [] i e lt is = absurd (omega arith)
weight_in (x ∷ es) zero e lt is = let same : weight e ≡ weight x = ap weight is in omega (arith, weights-cons x es)
weight_in (x ∷ es) (suc i) e lt is = let below : weight e ≤ weights es = weight_in es i e (omega arith) is in omega (arith, weights-cons x es)

pub part_weight_in : (ps : List EventPart) (i : ℕ) (p : EventPart) → i < length ps → p ≡ get_or ps i p → part_weight p ≤ part_weights ps
part_weight_in [] i p lt is = absurd (omega arith)
part_weight_in (x ∷ ps) zero p lt is = let same : part_weight p ≡ part_weight x = ap part_weight is in omega (arith, part_weights-cons x ps)
part_weight_in (x ∷ ps) (suc i) p lt is = let below : part_weight p ≤ part_weights ps = part_weight_in ps i p (omega arith) is in omega (arith, part_weights-cons x ps)

-- what a body weighs
abbrev pub body_weight : Body → ℕ
body_weight (body.Datum e) = weight e
body_weight (body.Nametype e) = weight e
body_weight _ = 0

unfoldable pub bodies_weight : List Def → ℕ
bodies_weight defs = total (map (λ def. body_weight def.body) defs)

bodies-cons : (def : Def) (defs : List Def) → bodies_weight (def ∷ defs) ≡ body_weight def.body + bodies_weight defs
unfolding bodies_weight
bodies-cons def defs = refl

pub body_in : (defs : List Def) (d : ℕ) (def : Def) → slice_get defs d ≡ Some def → body_weight def.body ≤ bodies_weight defs
body_in [] d def is = absurd (cc)
body_in (x ∷ defs) zero def is = let same : x ≡ def = cc in let same_weight : body_weight x.body ≡ body_weight def.body = ap (λ z. body_weight z.body) same in omega (arith, bodies-cons x defs)
body_in (x ∷ defs) (suc d) def is = let below : body_weight def.body ≤ bodies_weight defs = body_in defs d def is in omega (arith, bodies-cons x defs)

-- what so many uses may cost: the body of each, and one more
unfoldable pub cost : Content → ℕ → ℕ
cost p n = n * (bodies_weight p.defs + 2)

spent : (n b w : ℕ) → w ≤ b → n * (b + 2) + w + 1 < suc n * (b + 2)
spent n b w le = omega arith

pub cost-less : (p : Content) (n w : ℕ) → 0 < n → w ≤ bodies_weight p.defs → cost p (n - 1) + w + 1 < cost p n
unfolding cost
cost-less p zero w positive le = absurd (omega arith)
cost-less p (suc n) w positive le =
    let one_less : suc n - 1 ≡ n = omega arith in
    rw one_less (spent n (bodies_weight p.defs) w le)

pub ruleset none_weigh = (weights-nil, part_weights-nil)
