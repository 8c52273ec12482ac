-- An expression in order uses definitions that are there.
use Rattle.value_laws.proofs.Prelude.{◌≡◌, ℕ, zero, suc, ◌<◌, Bool, true, ◌&&◌, nat_eq, IsTrue, List, [], ◌∷◌, map, length, sym, ◌∙◌, ap, subst, inl, inr, arith, slice_get, false≢true, or_cases, eqb-true, Names, nowhere, either, any_of, is_datum, is_set_name, takes, with_fields, expr_in_order, gen_in_order, part_in_order, expr_in_order_of_layer, gen_in_order_of_layer, part_in_order_of_layer, all_true, expr_uses, expr_uses_of_layer, gen_uses_of_layer, part_uses_of_layer, EventPart, Expr, fold-roll-Expr, fold-roll-Gen, fold-roll-EventPart, map-Expr, map-Gen, Expr-F, Gen-F, EventPart-F, roll-Expr, roll-Gen, roll-EventPart, Gen, Body, Content, Def, is_first, is_second, Every, ExprHas, GenHas, PartHas, each_expr, gen_uses, part_uses}

taken_within : (of_class : Body → Bool) (count : ℕ) (defs : List Def) (d : ℕ) → IsTrue (takes of_class count (slice_get defs d)) → d < length defs
taken_within of_class count [] d t = absurd (false≢true t)
taken_within of_class count (def ∷ defs) zero t = omega arith
taken_within of_class count (def ∷ defs) (suc d) t = let l = taken_within of_class count defs d t in omega arith

module _ (p : Content) where
  -- what is used by something in order is there
  abbrev pub InRange : Bool → Names → Type 0
  InRange ordered names = IsTrue ordered → (d : ℕ) → IsTrue (names d) → d < length p.defs

  nothing : (ordered : Bool) → InRange ordered nowhere
  nothing ordered o d t = absurd (false≢true t)

  both : (a b : Bool) (f g : Names) → InRange a f → InRange b g → InRange (a && b) (either f g)
  both a b f g h k o d t = elim (or_cases (f d) (g d) t) [ inl l ↦ h (is_first a b o) d l | inr r ↦ k (is_second a b o) d r ]

  beside : (a b : Bool) (f : Names) → InRange b f → InRange (a && b) f
  beside a b f h o d t = h (is_second a b o) d t

  one_use : (of_class : Body → Bool) (count d : ℕ) → InRange (takes of_class count (slice_get p.defs d)) (λ j. nat_eq d j)
  one_use of_class count d o j t = subst (λ k. k < length p.defs) (eqb-true d j t) (taken_within of_class count p.defs d o)

  abbrev pub RangeExpr : Expr → Type 0
  RangeExpr e = InRange (expr_in_order p e) (expr_uses e)

  abbrev pub RangeGen : Gen → Type 0
  RangeGen g = InRange (gen_in_order p g) (gen_uses g)

  abbrev pub RangePart : EventPart → Type 0
  RangePart f = InRange (part_in_order p f) (part_uses f)

  -- what stands in a list is there, if each of it is
  all_range : {A : Type 0} (ordered : A → Bool) (uses : A → Names) (xs : List A) → Every (λ x. InRange (ordered x) (uses x)) xs → InRange (all_true (map ordered xs)) (any_of (map uses xs))
  all_range ordered uses [] h = nothing true
  all_range ordered uses (x ∷ xs) h = both (ordered x) (all_true (map ordered xs)) (uses x) (any_of (map uses xs)) h.0 (all_range ordered uses xs h.1)

  exprs_range : (es : List Expr) → Every RangeExpr es → InRange (all_true (map (expr_in_order p) es)) (any_of (map expr_uses es))
  exprs_range = all_range (expr_in_order p) expr_uses

  gens_range : (gs : List Gen) → Every RangeGen gs → InRange (all_true (map (gen_in_order p) gs)) (any_of (map gen_uses gs))
  gens_range = all_range (gen_in_order p) gen_uses

  abbrev form_order : Expr-F Expr Gen EventPart → Bool
  form_order d = expr_in_order_of_layer p (map-Expr Expr Gen EventPart Bool Bool Bool (expr_in_order p) (gen_in_order p) (part_in_order p) d)

  abbrev form_uses : Expr-F Expr Gen EventPart → Names
  form_uses d = expr_uses_of_layer (map-Expr Expr Gen EventPart Names Names Names expr_uses gen_uses part_uses d)

  moved : {a b : Bool} {f g : Names} → a ≡ b → f ≡ g → InRange b g → InRange a f
  moved e n h o d t = h (sym e ∙ o) d (ap (λ (k : Names). k d) (sym n) ∙ t)

  two : (a b : Expr) → RangeExpr a → RangeExpr b → InRange (expr_in_order p a && expr_in_order p b) (either (expr_uses a) (expr_uses b))
  two a b h k = both (expr_in_order p a) (expr_in_order p b) (expr_uses a) (expr_uses b) h k

  form_range : (d : Expr-F Expr Gen EventPart) → ExprHas RangeExpr RangeGen RangePart d → InRange (form_order d) (form_uses d)
  form_range (Expr-F.Neg a) h = h
  form_range (Expr-F.Not a) h = h
  form_range (Expr-F.Binary o a b) h = two a b h.0 h.1
  form_range (Expr-F.If c a b) h =
      both (expr_in_order p c) (expr_in_order p a && expr_in_order p b) (expr_uses c) (either (expr_uses a) (expr_uses b)) h.0 (two a b h.1 h.2)
  form_range (Expr-F.Call d args) h =
      let count = length (map (expr_in_order p) args) in
      both (takes is_datum count (slice_get p.defs d)) (all_true (map (expr_in_order p) args)) (λ j. nat_eq d j) (any_of (map expr_uses args)) (one_use is_datum count d) (exprs_range args h)
  form_range (Expr-F.SetName d) h = one_use is_set_name 0 d
  form_range (Expr-F.Event c fields) h =
      beside (with_fields (λ n. nat_eq n (length (map (expr_in_order p) fields))) (slice_get p.channels c)) (all_true (map (expr_in_order p) fields)) (any_of (map expr_uses fields)) (exprs_range fields h)
  form_range (Expr-F.Display items) h = exprs_range items h
  form_range (Expr-F.Range a b) h = two a b h.0 h.1
  form_range (Expr-F.Comp items gens) h =
      both (all_true (map (expr_in_order p) items)) (all_true (map (gen_in_order p) gens)) (any_of (map expr_uses items)) (any_of (map gen_uses gens)) (exprs_range items h.0) (gens_range gens h.1)
  form_range (Expr-F.Product parts gens) h =
      both (all_true (map (part_in_order p) parts)) (all_true (map (gen_in_order p) gens)) (any_of (map part_uses parts)) (any_of (map gen_uses gens))
      (all_range (part_in_order p) part_uses parts h.0) (gens_range gens h.1)
  form_range (Expr-F.SetOp o a b) h = two a b h.0 h.1
  form_range d h = nothing (form_order d)

  expr_step : (d : Expr-F Expr Gen EventPart) → ExprHas RangeExpr RangeGen RangePart d → RangeExpr (roll-Expr d)
  expr_step d h =
      moved (fold-roll-Expr Bool Bool Bool (expr_in_order_of_layer p) (gen_in_order_of_layer p) (part_in_order_of_layer p) d)
      (fold-roll-Expr Names Names Names expr_uses_of_layer gen_uses_of_layer part_uses_of_layer d) (form_range d h)

  gen_form_range : (d : Gen-F Expr Gen EventPart) → GenHas RangeExpr RangeGen RangePart d
      → InRange (gen_in_order_of_layer p (map-Gen Expr Gen EventPart Bool Bool Bool (expr_in_order p) (gen_in_order p) (part_in_order p) d)) (gen_uses_of_layer (map-Gen Expr Gen EventPart Names Names Names expr_uses gen_uses part_uses d))
  gen_form_range (Gen-F.From n s) h = h
  gen_form_range (Gen-F.Cond c) h = h

  gen_step : (d : Gen-F Expr Gen EventPart) → GenHas RangeExpr RangeGen RangePart d → RangeGen (roll-Gen d)
  gen_step d h =
      moved (fold-roll-Gen Bool Bool Bool (expr_in_order_of_layer p) (gen_in_order_of_layer p) (part_in_order_of_layer p) d)
      (fold-roll-Gen Names Names Names expr_uses_of_layer gen_uses_of_layer part_uses_of_layer d) (gen_form_range d h)

  part_step : (d : EventPart-F Expr Gen EventPart) → PartHas RangeExpr RangeGen RangePart d → RangePart (roll-EventPart d)
  part_step d h =
      moved (fold-roll-EventPart Bool Bool Bool (expr_in_order_of_layer p) (gen_in_order_of_layer p) (part_in_order_of_layer p) d)
      (fold-roll-EventPart Names Names Names expr_uses_of_layer gen_uses_of_layer part_uses_of_layer d)
      (λ o j t. exprs_range d.fields h (is_second _ (all_true (map (expr_in_order p) d.fields)) o) j t)

  pub uses_in_range : (e : Expr) → RangeExpr e
  uses_in_range = each_expr RangeExpr RangeGen RangePart expr_step gen_step part_step
