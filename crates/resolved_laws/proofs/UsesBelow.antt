-- What an expression uses is less deep than the expression with its uses expanded.
use Rattle.resolved_laws.proofs.Sources.{◌≡◌, ℕ, ◌+◌, ◌<◌, ◌≤◌, nat_eq, IsTrue, Option, Some, None, List, [], ◌∷◌, map, sym, subst, inl, inr, arith, max, false≢true, or_cases, eqb-true, greatest, Every, ExprHas, GenHas, PartHas, each_expr, gen_depth_of_layer, part_depth_of_layer, Names, any_of, either, nowhere, body_uses, def_uses, expr_uses, expr_uses_of_layer, gen_uses_of_layer, part_uses_of_layer, depth_at, expanded_depth, expanded_depth_of_layer, gen_expanded_depth, part_expanded_depth, Body, Def, EventPart, EventPart-F, Expr, Expr-F, Gen, Gen-F, fold-roll-EventPart, fold-roll-Expr, fold-roll-Gen, map-Expr, map-Gen, roll-EventPart, roll-Expr, roll-Gen}
use Rattle.csp_program.proofs.UsesWithin.{gen_uses, part_uses}
use Rattle.script_names.specs.DataDepth.{body_depth}

module _ (f : ℕ → ℕ) where
  -- each of these definitions is less deep than n
  pub record IsBelow (names : Names) (n : ℕ) : Type 0 where
    pub at : (d : ℕ) → IsTrue (names d) → f d < n

  nowhere_below : {n : ℕ} → IsBelow nowhere n
  nowhere_below = record { at = λ d t. absurd (false≢true t) }

  wider : {a : Names} {n k : ℕ} → n ≤ k → IsBelow a n → IsBelow a k
  wider l h = record { at = λ d t. let g = h.at d t in omega arith }

  either_below : {a b : Names} {n k : ℕ} → IsBelow a n → IsBelow b k → IsBelow (either a b) (max n k)
  either_below {a} {b} {n} {k} h g = record {
    at = λ d t. elim (or_cases (a d) (b d) t) [ inl l ↦ let i : f d < n = h.at d l in omega arith | inr r ↦ let i : f d < k = g.at d r in omega arith ];
  }

  one_below : (d : ℕ) → IsBelow (λ n. nat_eq d n) (1 + f d)
  one_below d = record { at = λ k t. let e : d ≡ k = eqb-true d k t in subst (λ z. f z < 1 + f d) e (omega arith) }

  any_below : {X : Type 0} (uses : X → Names) (depth : X → ℕ) (xs : List X) → Every (λ x. IsBelow (uses x) (depth x)) xs
      → IsBelow (any_of (map uses xs)) (greatest (map depth xs))
  any_below uses depth [] h = nowhere_below
  any_below uses depth (x ∷ xs) h = either_below h.0 (any_below uses depth xs h.1)

  more : {a : Names} {n : ℕ} → IsBelow a n → IsBelow a (1 + n)
  more h = wider (omega arith) h

  called : (d g : ℕ) → max (1 + f d) g ≤ 1 + max (f d) g
  called d g = omega arith

  abbrev ExprBelow : Expr → Type 0
  ExprBelow e = IsBelow (expr_uses e) (expanded_depth f e)

  abbrev GenBelow : Gen → Type 0
  GenBelow g = IsBelow (gen_uses g) (gen_expanded_depth f g)

  abbrev PartBelow : EventPart → Type 0
  PartBelow part = IsBelow (part_uses part) (part_expanded_depth f part)

  form_below : (d : Expr-F Expr Gen EventPart) → ExprHas ExprBelow GenBelow PartBelow d
      → IsBelow (expr_uses_of_layer (map-Expr Expr Gen EventPart Names Names Names expr_uses gen_uses part_uses d))
      (expanded_depth_of_layer f (map-Expr Expr Gen EventPart ℕ ℕ ℕ (expanded_depth f) (gen_expanded_depth f) (part_expanded_depth f) d))
  form_below (Expr-F.Num n) h = nowhere_below
  form_below (Expr-F.Truth b) h = nowhere_below
  form_below (Expr-F.Const k) h = nowhere_below
  form_below (Expr-F.Bound x) h = nowhere_below
  form_below (Expr-F.Lit v) h = nowhere_below
  form_below (Expr-F.Neg a) h = more h
  form_below (Expr-F.Not a) h = more h
  form_below (Expr-F.Binary o a b) h = more (either_below h.0 h.1)
  form_below (Expr-F.If c a b) h = more (either_below h.0 (either_below h.1 h.2))
  form_below (Expr-F.Call d args) h =
      wider (called d (greatest (map (expanded_depth f) args))) (either_below (one_below d) (any_below expr_uses (expanded_depth f) args h))
  form_below (Expr-F.SetName d) h = one_below d
  form_below (Expr-F.Event c fields) h = more (any_below expr_uses (expanded_depth f) fields h)
  form_below (Expr-F.Display items) h = more (any_below expr_uses (expanded_depth f) items h)
  form_below (Expr-F.Range a b) h = more (either_below h.0 h.1)
  form_below (Expr-F.Comp items gens) h =
      more (either_below (any_below expr_uses (expanded_depth f) items h.0) (any_below gen_uses (gen_expanded_depth f) gens h.1))
  form_below (Expr-F.Product parts gens) h =
      more (either_below (any_below part_uses (part_expanded_depth f) parts h.0) (any_below gen_uses (gen_expanded_depth f) gens h.1))
  form_below (Expr-F.SetOp o a b) h = more (either_below h.0 h.1)

  moved : {a b : Names} {n k : ℕ} → a ≡ b → n ≡ k → IsBelow b k → IsBelow a n
  moved {a} {b} {n} {k} e g h = subst (λ z. IsBelow z n) (sym e) (subst (IsBelow b) (sym g) h)

  expr_step : (d : Expr-F Expr Gen EventPart) → ExprHas ExprBelow GenBelow PartBelow d → ExprBelow (roll-Expr d)
  expr_step d h = moved (fold-roll-Expr Names Names Names expr_uses_of_layer gen_uses_of_layer part_uses_of_layer d)
      (fold-roll-Expr ℕ ℕ ℕ (expanded_depth_of_layer f) gen_depth_of_layer part_depth_of_layer d) (form_below d h)

  gen_form_below : (d : Gen-F Expr Gen EventPart) → GenHas ExprBelow GenBelow PartBelow d
      → IsBelow (gen_uses_of_layer (map-Gen Expr Gen EventPart Names Names Names expr_uses gen_uses part_uses d))
      (gen_depth_of_layer (map-Gen Expr Gen EventPart ℕ ℕ ℕ (expanded_depth f) (gen_expanded_depth f) (part_expanded_depth f) d))
  gen_form_below (Gen-F.From x s) h = h
  gen_form_below (Gen-F.Cond c) h = h

  gen_step : (d : Gen-F Expr Gen EventPart) → GenHas ExprBelow GenBelow PartBelow d → GenBelow (roll-Gen d)
  gen_step d h = moved (fold-roll-Gen Names Names Names expr_uses_of_layer gen_uses_of_layer part_uses_of_layer d)
      (fold-roll-Gen ℕ ℕ ℕ (expanded_depth_of_layer f) gen_depth_of_layer part_depth_of_layer d) (gen_form_below d h)

  part_step : (d : EventPart-F Expr Gen EventPart) → PartHas ExprBelow GenBelow PartBelow d → PartBelow (roll-EventPart d)
  part_step d h = moved (fold-roll-EventPart Names Names Names expr_uses_of_layer gen_uses_of_layer part_uses_of_layer d)
      (fold-roll-EventPart ℕ ℕ ℕ (expanded_depth_of_layer f) gen_depth_of_layer part_depth_of_layer d)
      (any_below expr_uses (expanded_depth f) d.fields h)

  expr_below : (e : Expr) → ExprBelow e
  expr_below = each_expr ExprBelow GenBelow PartBelow expr_step gen_step part_step

  body_below : (b : Body) (d : ℕ) → IsTrue (body_uses b d) → f d < body_depth f b
  body_below (Body.Datum e) d t = (expr_below e).at d t
  body_below (Body.Nametype e) d t = (expr_below e).at d t
  body_below (Body.Datatype ks) d t = absurd (false≢true t)
  body_below (Body.Process q) d t = absurd (false≢true t)
  body_below (Body.Network w) d t = absurd (false≢true t)

  -- what a definition uses is less deep than it is
  pub use_below : (def : Option Def) (d : ℕ) → IsTrue (def_uses def d) → f d < depth_at f def
  use_below None d t = absurd (false≢true t)
  use_below (Some def) d t = body_below def.body d t
