-- Inductions over expressions and processes by their forms: what each form has whose parts have it, all have. A form that is new gets a clause of
-- `ExprHas` or `ProcHas`, and one beside it.
use Rattle.std.proofs.Common.{◌≡◌, List, [], ◌∷◌, map, subst}
use Rattle.csp_program.specs.declared.expressions.EventPart.{EventPart}
use Rattle.csp_program.specs.declared.expressions.Expr.{Expr}
use Rattle.csp_program.specs.declared.expressions.Expr.TheFolds.{ind-Expr, ind-Gen, ind-EventPart, map-Expr, map-Gen, map-EventPart}
use Rattle.csp_program.specs.declared.expressions.Expr.TheOpen.{Expr-F, Gen-F, EventPart-F}
use Rattle.csp_program.specs.declared.expressions.Expr.TheViews.{roll-Expr, roll-Gen, roll-EventPart}
use Rattle.csp_program.specs.declared.expressions.Gen.{Gen}
use Rattle.csp_program.specs.declared.processes.Proc.{Proc}
use Rattle.csp_program.specs.declared.processes.Proc.TheFolds.{ind-Proc, map-Proc}
use Rattle.csp_program.specs.declared.processes.Proc.TheOpen.{Proc-F}
use Rattle.csp_program.specs.declared.processes.Proc.TheViews.{roll-Proc}

-- each of some parts has it
abbrev pub Every : {A : Type 0} → (A → Type 0) → List A → Type 0
Every P [] = Unit {0}
Every P (x ∷ xs) = P x × Every P xs

pub every : {A : Type 0} (P : A → Type 0) → ((x : A) → P x) → (xs : List A) → Every P xs
every P f [] = tt
every P f (x ∷ xs) = (f x, every P f xs)

abbrev Known : {A : Type 0} → (A → Type 0) → Type 0
Known {A} P = (x : A) × P x

known : {A : Type 0} (P : A → Type 0) (xs : List (Known P)) → Every P (map (λ x. x.0) xs)
known P [] = tt
known P (x ∷ xs) = (x.1, known P xs)

module _ (P : Expr → Type 0) (Q : Gen → Type 0) (R : EventPart → Type 0) where
  -- the parts of a form have it
  abbrev pub ExprHas : Expr-F Expr Gen EventPart → Type 0
  ExprHas (Expr-F.Neg a) = P a
  ExprHas (Expr-F.Not a) = P a
  ExprHas (Expr-F.Binary o a b) = P a × P b
  ExprHas (Expr-F.If c a b) = P c × P a × P b
  ExprHas (Expr-F.Call d args) = Every P args
  ExprHas (Expr-F.Event c fields) = Every P fields
  ExprHas (Expr-F.Display items) = Every P items
  ExprHas (Expr-F.Range a b) = P a × P b
  ExprHas (Expr-F.Comp items gens) = Every P items × Every Q gens
  ExprHas (Expr-F.Product parts gens) = Every R parts × Every Q gens
  ExprHas (Expr-F.SetOp o a b) = P a × P b
  ExprHas d = Unit {0}

  abbrev pub GenHas : Gen-F Expr Gen EventPart → Type 0
  GenHas (Gen-F.From n s) = P s
  GenHas (Gen-F.Cond c) = P c

  abbrev pub PartHas : EventPart-F Expr Gen EventPart → Type 0
  PartHas d = Every P d.fields

  abbrev bare : Expr-F (Known P) (Known Q) (Known R) → Expr-F Expr Gen EventPart
  bare y = map-Expr (Known P) (Known Q) (Known R) Expr Gen EventPart (λ e. e.0) (λ e. e.0) (λ e. e.0) y

  abbrev gen_bare : Gen-F (Known P) (Known Q) (Known R) → Gen-F Expr Gen EventPart
  gen_bare y = map-Gen (Known P) (Known Q) (Known R) Expr Gen EventPart (λ e. e.0) (λ e. e.0) (λ e. e.0) y

  abbrev part_bare : EventPart-F (Known P) (Known Q) (Known R) → EventPart-F Expr Gen EventPart
  part_bare y = map-EventPart (Known P) (Known Q) (Known R) Expr Gen EventPart (λ e. e.0) (λ e. e.0) (λ e. e.0) y

  parts_have : (y : Expr-F (Known P) (Known Q) (Known R)) → ExprHas (bare y)
  parts_have (Expr-F.Neg a) = a.1
  parts_have (Expr-F.Not a) = a.1
  parts_have (Expr-F.Binary o a b) = (a.1, b.1)
  parts_have (Expr-F.If c a b) = (c.1, a.1, b.1)
  parts_have (Expr-F.Call d args) = known P args
  parts_have (Expr-F.Event c fields) = known P fields
  parts_have (Expr-F.Display items) = known P items
  parts_have (Expr-F.Range a b) = (a.1, b.1)
  parts_have (Expr-F.Comp items gens) = (known P items, known Q gens)
  parts_have (Expr-F.Product parts gens) = (known R parts, known Q gens)
  parts_have (Expr-F.SetOp o a b) = (a.1, b.1)
  parts_have d = tt

  gen_parts_have : (y : Gen-F (Known P) (Known Q) (Known R)) → GenHas (gen_bare y)
  gen_parts_have (Gen-F.From n s) = s.1
  gen_parts_have (Gen-F.Cond c) = c.1

  module _ (of_expr : (d : Expr-F Expr Gen EventPart) → ExprHas d → P (roll-Expr d))
      (of_gen : (d : Gen-F Expr Gen EventPart) → GenHas d → Q (roll-Gen d))
      (of_part : (d : EventPart-F Expr Gen EventPart) → PartHas d → R (roll-EventPart d)) where
    expr_step : (z : Expr-F Expr Gen EventPart) (y : Expr-F (Known P) (Known Q) (Known R)) → bare y ≡ z → P (roll-Expr z)
    expr_step z y is = of_expr z (subst ExprHas is (parts_have y))

    gen_step : (z : Gen-F Expr Gen EventPart) (y : Gen-F (Known P) (Known Q) (Known R)) → gen_bare y ≡ z → Q (roll-Gen z)
    gen_step z y is = of_gen z (subst GenHas is (gen_parts_have y))

    part_step : (z : EventPart-F Expr Gen EventPart) (y : EventPart-F (Known P) (Known Q) (Known R)) → part_bare y ≡ z → R (roll-EventPart z)
    part_step z y is = of_part z (subst PartHas is (known P y.fields))

    pub each_expr : (e : Expr) → P e
    each_expr = ind-Expr P Q R expr_step gen_step part_step

    pub each_gen : (g : Gen) → Q g
    each_gen = ind-Gen P Q R expr_step gen_step part_step

    pub each_part : (part : EventPart) → R part
    each_part = ind-EventPart P Q R expr_step gen_step part_step

module _ (P : Proc → Type 0) where
  abbrev pub ProcHas : Proc-F Proc → Type 0
  ProcHas (Proc-F.Prefix h fields p) = P p
  ProcHas (Proc-F.Guard c p) = P p
  ProcHas (Proc-F.If c p q) = P p × P q
  ProcHas (Proc-F.External ps) = Every P ps
  ProcHas (Proc-F.Internal ps) = Every P ps
  ProcHas (Proc-F.EachExternal y s p) = P p
  ProcHas (Proc-F.EachInternal y s p) = P p
  ProcHas (Proc-F.Hide p s) = P p
  ProcHas (Proc-F.Rename p pairs gens) = P p
  ProcHas (Proc-F.Seq p q) = P p × P q
  ProcHas d = Unit {0}

  processes_have : (y : Proc-F (Known P)) → ProcHas (map-Proc (Known P) Proc (λ p. p.0) y)
  processes_have (Proc-F.Prefix h fields p) = p.1
  processes_have (Proc-F.Guard c p) = p.1
  processes_have (Proc-F.If c p q) = (p.1, q.1)
  processes_have (Proc-F.External ps) = known P ps
  processes_have (Proc-F.Internal ps) = known P ps
  processes_have (Proc-F.EachExternal y s p) = p.1
  processes_have (Proc-F.EachInternal y s p) = p.1
  processes_have (Proc-F.Hide p s) = p.1
  processes_have (Proc-F.Rename p pairs gens) = p.1
  processes_have (Proc-F.Seq p q) = (p.1, q.1)
  processes_have d = tt

  pub each_proc : ((d : Proc-F Proc) → ProcHas d → P (roll-Proc d)) → (p : Proc) → P p
  each_proc of_proc = ind-Proc P (λ z y is. of_proc z (subst ProcHas is (processes_have y)))
