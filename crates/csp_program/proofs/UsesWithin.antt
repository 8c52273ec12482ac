-- The number of uses that may still be entered doesn't matter once it is as great as the nesting of uses.
use Rattle.std.proofs.Common.{◌≡◌, ℕ, zero, suc, ◌≤◌, IsTrue, Some, None, List, [], ◌∷◌, map, refl, sym, ◌∙◌, subst, arith}
use Rattle.std.specs.Prelude.{Option, slice_get, nat_eq}
use Rattle.std.proofs.lemmas.Bool.{false≢true, eq-eqb}
use Rattle.csp_program.specs.Prelude.{Names, either, any_of, NestsWithin, DefNests, BodyNests, expr_uses, expr_uses_of_layer, gen_uses_of_layer, part_uses_of_layer, Uses, Meaning, Turn, Front, meaning, turn, front, meaning_of_layer, turn_of_layer, front_of_layer, body_value, def_value, uses_within, value_within, bound_to, many, as_set, values_of, Outcome, and_then}
use Rattle.csp_program.specs.declared.expressions.EventPart.{EventPart}
use Rattle.csp_program.specs.declared.expressions.Expr.{Expr}
use Rattle.csp_program.specs.declared.expressions.Expr.TheFolds.{fold-Gen, fold-EventPart, fold-roll-Expr, fold-roll-Gen, fold-roll-EventPart, map-Expr, map-Gen}
use Rattle.csp_program.specs.declared.expressions.Expr.TheOpen.{Expr-F, Gen-F, EventPart-F}
use Rattle.csp_program.specs.declared.expressions.Expr.TheViews.{roll-Expr, roll-Gen, roll-EventPart}
use Rattle.csp_program.specs.declared.expressions.Gen.{Gen}
use Rattle.csp_program.specs.declared.programs.Body.{Body}
use Rattle.csp_program.specs.declared.programs.Channel.{Channel}
use Rattle.csp_program.specs.declared.programs.Content.{Content}
use Rattle.csp_program.specs.declared.programs.Def.{Def}
use Rattle.csp_atoms.specs.declared.value.Value.{Value}
use Rattle.csp_program.specs.declared.programs.Body.TheVariants as body
use Rattle.csp_program.proofs.Forms.{Every, ExprHas, GenHas, PartHas, each_expr}
use Rattle.csp_base.proofs.Booleans.{is_or_first, is_or_second}

abbrev pub gen_uses : Gen → Names
gen_uses = fold-Gen Names Names Names expr_uses_of_layer gen_uses_of_layer part_uses_of_layer

abbrev pub part_uses : EventPart → Names
part_uses = fold-EventPart Names Names Names expr_uses_of_layer gen_uses_of_layer part_uses_of_layer

abbrev called : List Meaning → (List Value → Outcome Value) → Meaning
called args entered env = and_then (values_of args env) (λ vs. entered vs)

abbrev named : (List Value → Outcome Value) → Meaning
named entered env = and_then (entered []) (λ v. many (as_set v))

-- two ways to value uses that agree on the uses of an expression give it one meaning
module _ (u w : Uses) (channels : List Channel) where
  abbrev pub Agree : Names → Type 0
  Agree names = (d : ℕ) → IsTrue (names d) → u d ≡ w d

  left : (a b : Names) → Agree (either a b) → Agree a
  left a b h d t = h d (is_or_first (a d) (b d) t)

  right : (a b : Names) → Agree (either a b) → Agree b
  right a b h d t = h d (is_or_second (a d) (b d) t)

  abbrev pub SameExpr : Expr → Type 0
  SameExpr e = Agree (expr_uses e) → meaning u channels e ≡ meaning w channels e

  abbrev pub SameGen : Gen → Type 0
  SameGen g = Agree (gen_uses g) → turn u channels g ≡ turn w channels g

  abbrev pub SamePart : EventPart → Type 0
  SamePart p = Agree (part_uses p) → front u channels p ≡ front w channels p

  exprs_same : (es : List Expr) → Every SameExpr es → Agree (any_of (map expr_uses es)) → map (meaning u channels) es ≡ map (meaning w channels) es
  exprs_same [] same h = refl
  exprs_same (e ∷ es) same h = λ i. same.0 (left (expr_uses e) (any_of (map expr_uses es)) h) i ∷ exprs_same es same.1 (right (expr_uses e) (any_of (map expr_uses es)) h) i

  gens_same : (gs : List Gen) → Every SameGen gs → Agree (any_of (map gen_uses gs)) → map (turn u channels) gs ≡ map (turn w channels) gs
  gens_same [] same h = refl
  gens_same (g ∷ gs) same h = λ i. same.0 (left (gen_uses g) (any_of (map gen_uses gs)) h) i ∷ gens_same gs same.1 (right (gen_uses g) (any_of (map gen_uses gs)) h) i

  parts_same : (ps : List EventPart) → Every SamePart ps → Agree (any_of (map part_uses ps)) → map (front u channels) ps ≡ map (front w channels) ps
  parts_same [] same h = refl
  parts_same (p ∷ ps) same h = λ i. same.0 (left (part_uses p) (any_of (map part_uses ps)) h) i ∷ parts_same ps same.1 (right (part_uses p) (any_of (map part_uses ps)) h) i

  -- what one form of an expression uses, and what it means
  abbrev form_uses : Expr-F Expr Gen EventPart → Names
  form_uses d = expr_uses_of_layer (map-Expr Expr Gen EventPart Names Names Names expr_uses gen_uses part_uses d)

  abbrev form_means : Uses → Expr-F Expr Gen EventPart → Meaning
  form_means u d = meaning_of_layer u channels (map-Expr Expr Gen EventPart Meaning Turn Front (meaning u channels) (turn u channels) (front u channels) d)

  two_same : (a b : Expr) → SameExpr a → SameExpr b → Agree (either (expr_uses a) (expr_uses b)) → (meaning u channels a ≡ meaning w channels a) × (meaning u channels b ≡ meaning w channels b)
  two_same a b first second h = (first (left (expr_uses a) (expr_uses b) h), second (right (expr_uses a) (expr_uses b) h))

  form_same : (d : Expr-F Expr Gen EventPart) → ExprHas SameExpr SameGen SamePart d → Agree (form_uses d) → form_means u d ≡ form_means w d
  form_same (Expr-F.Neg a) same h = λ i. meaning_of_layer u channels (Expr-F.Neg (same h i))
  form_same (Expr-F.Not a) same h = λ i. meaning_of_layer u channels (Expr-F.Not (same h i))
  form_same (Expr-F.Binary o a b) same h =
      let two = two_same a b same.0 same.1 h in
      λ i. meaning_of_layer u channels (Expr-F.Binary o (two.0 i) (two.1 i))
  form_same (Expr-F.If c a b) same h =
      let two = two_same a b same.1 same.2 (right (expr_uses c) (either (expr_uses a) (expr_uses b)) h) in
      λ i. meaning_of_layer u channels (Expr-F.If (same.0 (left (expr_uses c) (either (expr_uses a) (expr_uses b)) h) i) (two.0 i) (two.1 i))
  form_same (Expr-F.Call d args) same h = λ i env.
      called (exprs_same args same (right (λ n. nat_eq d n) (any_of (map expr_uses args)) h) i)
      (h d (is_or_first (nat_eq d d) (any_of (map expr_uses args) d) (eq-eqb d d refl)) i) env
  form_same (Expr-F.SetName d) same h = λ i env. named (h d (eq-eqb d d refl) i) env
  form_same (Expr-F.Event c fields) same h = λ i. meaning_of_layer u channels (Expr-F.Event c (exprs_same fields same h i))
  form_same (Expr-F.Display items) same h = λ i. meaning_of_layer u channels (Expr-F.Display (exprs_same items same h i))
  form_same (Expr-F.Range a b) same h =
      let two = two_same a b same.0 same.1 h in
      λ i. meaning_of_layer u channels (Expr-F.Range (two.0 i) (two.1 i))
  form_same (Expr-F.Comp items gens) same h = λ i. meaning_of_layer u channels (Expr-F.Comp
      (exprs_same items same.0 (left (any_of (map expr_uses items)) (any_of (map gen_uses gens)) h) i) (gens_same gens same.1 (right (any_of (map expr_uses items)) (any_of (map gen_uses gens)) h) i))
  form_same (Expr-F.Product parts gens) same h = λ i. meaning_of_layer u channels (Expr-F.Product
      (parts_same parts same.0 (left (any_of (map part_uses parts)) (any_of (map gen_uses gens)) h) i) (gens_same gens same.1 (right (any_of (map part_uses parts)) (any_of (map gen_uses gens)) h) i))
  form_same (Expr-F.SetOp o a b) same h =
      let two = two_same a b same.0 same.1 h in
      λ i. meaning_of_layer u channels (Expr-F.SetOp o (two.0 i) (two.1 i))
  form_same d same h = refl

  expr_step : (d : Expr-F Expr Gen EventPart) → ExprHas SameExpr SameGen SamePart d → SameExpr (roll-Expr d)
  expr_step d same h =
      fold-roll-Expr Meaning Turn Front (meaning_of_layer u channels) (turn_of_layer u channels) (front_of_layer u channels) d ∙
      (form_same d same (subst Agree (fold-roll-Expr Names Names Names expr_uses_of_layer gen_uses_of_layer part_uses_of_layer d) h) ∙
      sym (fold-roll-Expr Meaning Turn Front (meaning_of_layer w channels) (turn_of_layer w channels) (front_of_layer w channels) d))

  gen_form_same : (d : Gen-F Expr Gen EventPart) → GenHas SameExpr SameGen SamePart d → Agree (gen_uses_of_layer (map-Gen Expr Gen EventPart Names Names Names expr_uses gen_uses part_uses d))
      → turn_of_layer u channels (map-Gen Expr Gen EventPart Meaning Turn Front (meaning u channels) (turn u channels) (front u channels) d)
      ≡ turn_of_layer w channels (map-Gen Expr Gen EventPart Meaning Turn Front (meaning w channels) (turn w channels) (front w channels) d)
  gen_form_same (Gen-F.From n s) same h = λ i. turn_of_layer u channels (Gen-F.From n (same h i))
  gen_form_same (Gen-F.Cond c) same h = λ i. turn_of_layer u channels (Gen-F.Cond (same h i))

  gen_step : (d : Gen-F Expr Gen EventPart) → GenHas SameExpr SameGen SamePart d → SameGen (roll-Gen d)
  gen_step d same h =
      fold-roll-Gen Meaning Turn Front (meaning_of_layer u channels) (turn_of_layer u channels) (front_of_layer u channels) d ∙
      (gen_form_same d same (subst Agree (fold-roll-Gen Names Names Names expr_uses_of_layer gen_uses_of_layer part_uses_of_layer d) h) ∙
      sym (fold-roll-Gen Meaning Turn Front (meaning_of_layer w channels) (turn_of_layer w channels) (front_of_layer w channels) d))

  part_step : (d : EventPart-F Expr Gen EventPart) → PartHas SameExpr SameGen SamePart d → SamePart (roll-EventPart d)
  part_step d same h =
      fold-roll-EventPart Meaning Turn Front (meaning_of_layer u channels) (turn_of_layer u channels) (front_of_layer u channels) d ∙
      ((λ i. front_of_layer u channels (record {
        channel = d.channel;
        fields = exprs_same d.fields same (subst Agree (fold-roll-EventPart Names Names Names expr_uses_of_layer gen_uses_of_layer part_uses_of_layer d) h) i;
      })) ∙
      sym (fold-roll-EventPart Meaning Turn Front (meaning_of_layer w channels) (turn_of_layer w channels) (front_of_layer w channels) d))

  pub meaning_same : (e : Expr) → Agree (expr_uses e) → meaning u channels e ≡ meaning w channels e
  meaning_same = each_expr SameExpr SameGen SamePart expr_step gen_step part_step

body_same : (f g : Expr → Meaning) (within : Expr → Type 0) → ((e : Expr) → within e → f e ≡ g e) → (params : List ℕ) (b : Body) → BodyNests within b → body_value f params b ≡ body_value g params b
body_same f g within same params (body.Datum e) h = λ i args. same e h i (bound_to params args)
body_same f g within same params (body.Nametype e) h = λ i args. same e h i []
body_same f g within same params (body.Datatype ks) h = refl
body_same f g within same params (body.Process p) h = refl
body_same f g within same params (body.Network n) h = refl

def_same : (f g : Expr → Meaning) (within : Expr → Type 0) → ((e : Expr) → within e → f e ≡ g e) → (def : Option Def) → DefNests within def → def_value f def ≡ def_value g def
def_same f g within same None h = refl
def_same f g within same (Some def) h = body_same f g within same def.params def.body h

-- from the nesting of an expression's uses on, the number of uses that may still be entered doesn't matter
pub value_within_same : (p : Content) (n m : ℕ) → n ≤ m → (e : Expr) → NestsWithin p.defs n e → value_within p n e ≡ value_within p m e
value_within_same p zero m le e h = meaning_same (uses_within p zero) (uses_within p m) p.channels e (λ d t. absurd (false≢true (sym (h d) ∙ t)))
value_within_same p (suc n) zero le e h = absurd (omega arith)
value_within_same p (suc n) (suc m) le e h = meaning_same (uses_within p (suc n)) (uses_within p (suc m)) p.channels e
    (λ d t. def_same (meaning (uses_within p n) p.channels) (meaning (uses_within p m) p.channels) (NestsWithin p.defs n)
    (λ b within. value_within_same p n m (omega arith) b within) (slice_get p.defs d) (h d t))
