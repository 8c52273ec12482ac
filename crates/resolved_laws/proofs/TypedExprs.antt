-- An expression that a tree means is in order, reads only names of its scope, and binds its names in turn.
use Rattle.resolved_laws.proofs.Sources.{◌≡◌, ℕ, ◌+◌, ◌-◌, nat_eq, Bool, ◌&&◌, IsTrue, List, ◌∷◌, ◌++◌, length, map, refl, sym, ◌∙◌, ap, subst, slice_get, Bound, expr_bound, expr_bound_of_layer, exprs_bound, gen_bound, gen_bound_of_layer, part_bound, part_bound_of_layer, Names, any_of, expr_free, expr_free_of_layer, gen_binding, gen_free_of_layer, part_free, part_free_of_layer, expr_in_order, expr_in_order_of_layer, field_count, fields_left, gen_in_order, gen_in_order_of_layer, is_datum, part_in_order, part_in_order_of_layer, takes, with_fields, all_true, joined, Meanings, Scope, AreExprs, AreFronts, AreGens, IsExpr, IsFront, event_part, Content, EventPart, EventPart-F, Expr, Expr-F, Gen, Gen-F, GenTree, Kind, PartTree, Tree, fold-roll-EventPart, fold-roll-Expr, fold-roll-Gen, map-Expr, map-Gen, out-roll-EventPart, roll-Expr, roll-Gen}
use Rattle.std.proofs.lemmas.List.{length-map}
use Rattle.csp_program.specs.Free as free
use Rattle.csp_program.specs.declared.expressions.Expr.TheVariants as expr
use Rattle.csp_program.specs.declared.expressions.Gen.TheVariants as generator
use Rattle.script_names.specs.Typing as t
use Rattle.resolved_laws.proofs.Booleans.{and}
use Rattle.resolved_laws.proofs.Declared.{Fits, at_most, leaves}
use Rattle.resolved_laws.proofs.InTurn.{InTurn, none}
use Rattle.resolved_laws.proofs.Sound.{Binds, IsSound, binds_behind, binds_none, binds_one, count_exprs, fact, given, pair, triple, under_all}
use Rattle.resolved_laws.proofs.Within.{IsWithin, one_within}

module _ (m : Meanings) (ks : List Kind) (p : Content) (fits : Fits m ks p) where
  abbrev pub ExprSound : Scope → ℕ → Expr → ℕ → Type 0
  ExprSound scope n e k = IsSound (expr_in_order p e) (expr_free e) (expr_bound e) scope n k

  abbrev pub ExprsSound : Scope → ℕ → List Expr → ℕ → Type 0
  ExprsSound scope n es k = IsSound (all_true (map (expr_in_order p) es)) (any_of (map expr_free es)) (exprs_bound es) scope n k

  abbrev pub GensSound : Scope → ℕ → List Gen → Scope → ℕ → Type 0
  GensSound scope n gs inner k = Binds (all_true (map (gen_in_order p) gs)) (free.under (map gen_binding gs)) (joined (map gen_bound gs)) scope inner n k

  -- the front of an event, and how many fields it leaves
  pub record FrontSound (scope : Scope) (n : ℕ) (f : EventPart) (rest k : ℕ) : Type 0 where
    pub sound : IsSound (part_in_order p f) (part_free f) (part_bound f) scope n k
    pub leaves : fields_left p f ≡ rest

  abbrev pub FrontsSound : Scope → ℕ → List EventPart → ℕ → Type 0
  FrontsSound scope n fs k = IsSound (all_true (map (part_in_order p) fs)) (any_of (map part_free fs)) (joined (map part_bound fs)) scope n k

  -- ---- one layer

  expr_form : {scope : Scope} {n k : ℕ} (d : Expr-F Expr Gen EventPart) {e : Expr} → roll-Expr d ≡ e
      → IsSound (expr_in_order_of_layer p (map-Expr Expr Gen EventPart Bool Bool Bool (expr_in_order p) (gen_in_order p) (part_in_order p) d))
      (expr_free_of_layer (map-Expr Expr Gen EventPart Names free.Binding Names expr_free gen_binding part_free d))
      (expr_bound_of_layer (map-Expr Expr Gen EventPart Bound Bound Bound expr_bound gen_bound part_bound d)) scope n k → ExprSound scope n e k
  expr_form {scope} {n} {k} d is h = subst (λ z. ExprSound scope n z k) is (record {
    order = subst IsTrue (sym (fold-roll-Expr Bool Bool Bool (expr_in_order_of_layer p) (gen_in_order_of_layer p) (part_in_order_of_layer p) d)) h.order;
    free = subst (λ z. IsWithin z scope) (sym (fold-roll-Expr Names free.Binding Names expr_free_of_layer gen_free_of_layer part_free_of_layer d)) h.free;
    turn = subst (λ z. InTurn n z k) (sym (fold-roll-Expr Bound Bound Bound expr_bound_of_layer gen_bound_of_layer part_bound_of_layer d)) h.turn;
  })

  more_gens : {scope inner : Scope} {n k : ℕ} (gs : List Gen) (d : Gen-F Expr Gen EventPart) {g : Gen} → roll-Gen d ≡ g
      → Binds (gen_in_order_of_layer p (map-Gen Expr Gen EventPart Bool Bool Bool (expr_in_order p) (gen_in_order p) (part_in_order p) d)
      && all_true (map (gen_in_order p) gs))
      (free.under (gen_free_of_layer (map-Gen Expr Gen EventPart Names free.Binding Names expr_free gen_binding part_free d) ∷ map gen_binding gs))
      (gen_bound_of_layer (map-Gen Expr Gen EventPart Bound Bound Bound expr_bound gen_bound part_bound d) ++ joined (map gen_bound gs)) scope inner n k
      → GensSound scope n (g ∷ gs) inner k
  more_gens {scope} {inner} {n} {k} gs d is h = subst (λ z. GensSound scope n (z ∷ gs) inner k) is (record {
    order = subst (λ z. IsTrue (z && all_true (map (gen_in_order p) gs)))
        (sym (fold-roll-Gen Bool Bool Bool (expr_in_order_of_layer p) (gen_in_order_of_layer p) (part_in_order_of_layer p) d)) h.order;
    free = λ names l. subst (λ z. IsWithin (free.under (z ∷ map gen_binding gs) names) scope)
        (sym (fold-roll-Gen Names free.Binding Names expr_free_of_layer gen_free_of_layer part_free_of_layer d)) (h.free names l);
    turn = subst (λ z. InTurn n (z ++ joined (map gen_bound gs)) k)
        (sym (fold-roll-Gen Bound Bound Bound expr_bound_of_layer gen_bound_of_layer part_bound_of_layer d)) h.turn;
  })

  front_form : {scope : Scope} {n k : ℕ} (c left fields : ℕ) (es : List Expr) → ExprsSound scope n es k → length es + left ≡ fields
      → IsTrue (with_fields (λ i. nat_eq i fields) (slice_get p.channels c)) → FrontSound scope n (event_part c es) left k
  front_form {scope} {n} {k} c left fields es h is has =
      let d : EventPart-F Expr Gen EventPart = record { channel = c; fields = es } in
      let count : length (map (expr_in_order p) es) + left ≡ fields = ap (λ z. z + left) (length-map es (expr_in_order p)) ∙ is in
      record {
        sound = record {
          order = subst IsTrue (sym (fold-roll-EventPart Bool Bool Bool (expr_in_order_of_layer p) (gen_in_order_of_layer p) (part_in_order_of_layer p) d))
              (and (at_most (length (map (expr_in_order p) es)) left fields (slice_get p.channels c) count has) h.order);
          free = subst (λ z. IsWithin z scope) (sym (fold-roll-EventPart Names free.Binding Names expr_free_of_layer gen_free_of_layer part_free_of_layer d)) h.free;
          turn = subst (λ z. InTurn n z k) (sym (fold-roll-EventPart Bound Bound Bound expr_bound_of_layer gen_bound_of_layer part_bound_of_layer d)) h.turn;
        };
        leaves = subst (λ z. field_count (slice_get p.channels z.channel) - length z.fields ≡ left) (sym (out-roll-EventPart d))
            (leaves (length es) left fields (slice_get p.channels c) is has);
      }

  -- a test of the number of arguments, said of the expressions that they mean
  counted : {scope : Scope} {n k : ℕ} {ts : List Tree} {es : List Expr} (test : ℕ → Type 0) → AreExprs m ks scope n ts es k → test (length ts)
      → test (length (map (expr_in_order p) es))
  counted {es = es} test h t = subst test (count_exprs h ∙ sym (length-map es (expr_in_order p))) t

  mutual
    pub expr_sound : {scope : Scope} {n k : ℕ} {a : Tree} {e : Expr} → IsExpr m ks scope n a e k → ExprSound scope n e k
    expr_sound t.number = expr_form _ (expr.rolls-Num _) (fact refl)
    expr_sound t.truth = expr_form _ (expr.rolls-Truth _) (fact refl)
    expr_sound t.falsehood = expr_form _ (expr.rolls-Truth _) (fact refl)
    expr_sound {scope} (t.bound {b = b} {x = x} h) = expr_form _ (expr.rolls-Bound _) (record { order = refl; free = one_within scope x b h; turn = none })
    expr_sound (t.event {c = c} {x = x} h) = expr_form _ (expr.rolls-Event _ _) (given (fits.channel x c 0 h.1) (fact refl))
    expr_sound (t.constant {k = k} {x = x} h) = expr_form _ (expr.rolls-Const _) (fact (fits.constant x k h.1))
    expr_sound (t.datum {d = d} {x = x} h is) = expr_form _ (expr.rolls-Call _ _) (given (fits.datum x d 0 h.1 is) (fact refl))
    expr_sound (t.named_set {d = d} {x = x} h) = expr_form _ (expr.rolls-SetName _) (fact (fits.set x d h.1))
    expr_sound (t.call {d = d} {f = x} {args = args} h is g) =
        expr_form _ (expr.rolls-Call _ _)
        (given (counted (λ i. IsTrue (takes is_datum i (slice_get p.defs d))) g (fits.datum x d (length args) h.1 is)) (exprs_sound g))
    expr_sound (t.dotted {c = c} {x = x} {fields = fields} h g) =
        expr_form _ (expr.rolls-Event _ _)
        (given (counted (λ i. IsTrue (with_fields (λ j. nat_eq j i) (slice_get p.channels c))) g (fits.channel x c (length fields) h.1)) (exprs_sound g))
    expr_sound (t.negative h) = expr_form _ (expr.rolls-Neg _) (expr_sound h)
    expr_sound (t.negation h) = expr_form _ (expr.rolls-Not _) (expr_sound h)
    expr_sound (t.binary h g) = expr_form _ (expr.rolls-Binary _ _ _) (pair (expr_sound h) (expr_sound g))
    expr_sound (t.expr_if h g l) = expr_form _ (expr.rolls-If _ _ _) (triple (expr_sound h) (expr_sound g) (expr_sound l))
    expr_sound (t.display h) = expr_form _ (expr.rolls-Display _) (exprs_sound h)
    expr_sound (t.range h g) = expr_form _ (expr.rolls-Range _ _) (pair (expr_sound h) (expr_sound g))
    expr_sound (t.comprehension h g) = expr_form _ (expr.rolls-Comp _ _) (under_all (exprs_sound h) (gens_sound g))
    expr_sound (t.product h g) = expr_form _ (expr.rolls-Product _ _) (under_all (fronts_sound h) (gens_sound g))
    expr_sound (t.set_operator h g) = expr_form _ (expr.rolls-SetOp _ _ _) (pair (expr_sound h) (expr_sound g))

    pub exprs_sound : {scope : Scope} {n k : ℕ} {ts : List Tree} {es : List Expr} → AreExprs m ks scope n ts es k → ExprsSound scope n es k
    exprs_sound t.no_exprs = fact refl
    exprs_sound (t.more_exprs h g) = pair (expr_sound h) (exprs_sound g)

    pub gens_sound : {scope inner : Scope} {n k : ℕ} {ts : List GenTree} {gs : List Gen} → AreGens m ks scope n ts gs inner k → GensSound scope n gs inner k
    gens_sound t.no_gens = binds_none
    gens_sound (t.from {x = x} {gs = gs} b h g) = more_gens gs _ (generator.rolls-From _ _) (binds_one x (expr_sound h) (gens_sound g))
    gens_sound (t.condition {gs = gs} h g) = more_gens gs _ (generator.rolls-Cond _) (binds_behind (expr_sound h) (gens_sound g))

    pub front_sound : {scope : Scope} {n left k : ℕ} {a : PartTree} {f : EventPart} → IsFront m ks scope n a f left k → FrontSound scope n f left k
    front_sound (t.front {c = c} {fields = fields} {left = left} {x = x} {es = es} h is g) =
        front_form c left fields es (exprs_sound g) (ap (λ z. z + left) (sym (count_exprs g)) ∙ is) (fits.channel x c fields h.1)

    pub fronts_sound : {scope : Scope} {n k : ℕ} {ts : List PartTree} {fs : List EventPart} → AreFronts m ks scope n ts fs k → FrontsSound scope n fs k
    fronts_sound t.no_fronts = fact refl
    fronts_sound (t.more_fronts h g) = pair (front_sound h).sound (fronts_sound g)
