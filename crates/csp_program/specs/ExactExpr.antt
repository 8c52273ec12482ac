-- `==` on expressions is equality: by induction, one layer at a time.
use denote.Enum.Compared.{Each, by}
use Rattle.std.specs.Prelude.{◌≡◌, ℕ, Bool, true, false, ◌&&◌, nat_eq, List, map, refl}
use Rattle.std.proofs.Common.{sym, ◌∙◌, subst}
use Rattle.csp_base.proofs.Standard.{eqb-true, false≢true, Decides-int_eq}
use Rattle.csp_base.specs.Standard.{first_so, second_so, int_eq, pointwise}
use Rattle.containers.proofs.SameLemmas.{IsSame, Known, same_items, same_rolled}
use Rattle.csp_atoms.specs.Exact.{exact_value}
use Rattle.csp_atoms.specs.contracts.value.ValuePartialEq.TheImpl as values
use Rattle.std.specs.contracts.prelude.BoolPartialEq.TheImpl as bools
use Rattle.csp_base.specs.contracts.operators.BinOpPartialEq.TheImpl as binops
use Rattle.csp_base.specs.contracts.operators.SetOpPartialEq.TheImpl as setops
use Rattle.csp_program.specs.contracts.expressions.Expr.{the_parts}
use Rattle.csp_program.specs.contracts.expressions.ExprPartialEq.TheImpl as exprs
use Rattle.csp_program.specs.contracts.expressions.ExprPartialEq.TheImpl.Laws as expr_laws
use Rattle.csp_program.specs.contracts.expressions.GenPartialEq.TheImpl as gens
use Rattle.csp_program.specs.contracts.expressions.GenPartialEq.TheImpl.Laws as gen_laws
use Rattle.csp_program.specs.contracts.expressions.EventPartPartialEq.TheImpl as parts
use Rattle.csp_program.specs.contracts.expressions.EventPartPartialEq.TheImpl.Laws as part_laws
use Rattle.csp_base.specs.declared.operators.BinOp.{BinOp}
use Rattle.csp_base.specs.declared.operators.SetOp.{SetOp}
use Rattle.csp_base.specs.declared.operators.BinOp.TheVariants as binop
use Rattle.csp_base.specs.declared.operators.SetOp.TheVariants as setop
use Rattle.csp_program.specs.declared.expressions.Expr.{Expr}
use Rattle.csp_program.specs.declared.expressions.Expr.TheBlock.{split-Expr, the_family}
use Rattle.csp_program.specs.declared.expressions.Expr.TheOpen.{Expr-F, Gen-F, EventPart-F}
use Rattle.csp_program.specs.declared.expressions.Expr.TheFolds.{ind-Expr, ind-Gen, ind-EventPart, map-Expr, map-Gen, map-EventPart}
use Rattle.csp_program.specs.declared.expressions.Expr.TheViews.{out-Expr, roll-Expr, roll-out-Expr, out-roll-Expr, out-Gen, roll-Gen, roll-out-Gen, out-EventPart, roll-EventPart, roll-out-EventPart, out-roll-EventPart}
use Rattle.csp_program.specs.declared.expressions.EventPart.{EventPart}
use Rattle.csp_program.specs.declared.expressions.Gen.{Gen}
use Rattle.csp_program.specs.declared.expressions.Gen.TheVariants as generator

abbrev pub eq_expr : Expr → Expr → Bool
eq_expr = (exprs.ghosts).eq

abbrev pub eq_gen : Gen → Gen → Bool
eq_gen = (gens.ghosts).eq

abbrev pub eq_part : EventPart → EventPart → Bool
eq_part = (parts.ghosts).eq

exact_binop : (x y : BinOp) → (binops.ghosts).eq x y ≡ true → x ≡ y
exact_binop binop.Or binop.Or h = refl
exact_binop binop.And binop.And h = refl
exact_binop binop.Eq binop.Eq h = refl
exact_binop binop.Ne binop.Ne h = refl
exact_binop binop.Lt binop.Lt h = refl
exact_binop binop.Le binop.Le h = refl
exact_binop binop.Gt binop.Gt h = refl
exact_binop binop.Ge binop.Ge h = refl
exact_binop binop.Add binop.Add h = refl
exact_binop binop.Sub binop.Sub h = refl
exact_binop binop.Mul binop.Mul h = refl
exact_binop binop.Div binop.Div h = refl
exact_binop binop.Rem binop.Rem h = refl
exact_binop x y h = absurd (false≢true h)

exact_setop : (x y : SetOp) → (setops.ghosts).eq x y ≡ true → x ≡ y
exact_setop setop.Union setop.Union h = refl
exact_setop setop.Inter setop.Inter h = refl
exact_setop setop.Diff setop.Diff h = refl
exact_setop x y h = absurd (false≢true h)

exact_bool : (x y : Bool) → (bools.ghosts).eq x y ≡ true → x ≡ y
exact_bool true true h = refl
exact_bool false false h = refl
exact_bool x y h = absurd (false≢true h)

-- `==` at the fields of a variant that has one, two or three
abbrev one : {X Z : Type 0} → (X → X → Bool) → X × Z → X × Z → Bool
one eq x y = eq x.0 y.0

abbrev two : {X Y Z : Type 0} → (X → X → Bool) → (Y → Y → Bool) → X × (Y × Z) → X × (Y × Z) → Bool
two eq eq' x y = eq x.0 y.0 && eq' x.1.0 y.1.0

abbrev three : {X Y Z W : Type 0} → (X → X → Bool) → (Y → Y → Bool) → (Z → Z → Bool) → X × (Y × (Z × W)) → X × (Y × (Z × W)) → Bool
three eq eq' eq'' x y = eq x.0 y.0 && (eq' x.1.0 y.1.0 && eq'' x.1.1.0 y.1.1.0)

abbrev eq_exprs : List Expr → List Expr → Bool
eq_exprs = pointwise eq_expr

abbrev eq_gens : List Gen → List Gen → Bool
eq_gens = pointwise eq_gen

-- the same for each variant, in their order
abbrev eq_each : Each Bool the_parts
eq_each = (one int_eq, (one (bools.ghosts).eq, (one nat_eq, (one nat_eq, (one (values.ghosts).eq, (one eq_expr, (one eq_expr, (three (binops.ghosts).eq eq_expr eq_expr, (three eq_expr eq_expr eq_expr, (two nat_eq eq_exprs, (one nat_eq, (two nat_eq eq_exprs, (one eq_exprs, (two eq_expr eq_expr, (two eq_exprs eq_gens, (two (pointwise eq_part) eq_gens, (three (setops.ghosts).eq eq_expr eq_expr, tt)))))))))))))))))

-- `==` at two layers
abbrev eq_layer : Expr-F Expr Gen EventPart → Expr-F Expr Gen EventPart → Bool
eq_layer d z = by false false the_parts eq_each (split-Expr the_family d) (split-Expr the_family z)

layered : (d z : Expr-F Expr Gen EventPart) → expr_laws.unfolded (roll-Expr d) (roll-Expr z) ≡ true → eq_layer d z ≡ true
layered d z h = subst (λ u. eq_layer d u ≡ true) (out-roll-Expr z) (subst (λ u. eq_layer u (out-Expr (roll-Expr z)) ≡ true) (out-roll-Expr d) h)

same-Gen-From : (y : ℕ) (s : Known eq_expr) (z : Gen-F Expr Gen EventPart) → gen_laws.unfolded (roll-Gen (Gen-F.From y s.0)) (roll-Gen z) ≡ true → roll-Gen (Gen-F.From y s.0) ≡ roll-Gen z
same-Gen-From y s (Gen-F.From y' s') h =
    let g : ((nat_eq y y') && (eq_expr s.0 s')) ≡ true = simp (generator.rolls-From, generator.rolls-Cond) at h in
    λ i. roll-Gen (Gen-F.From (eqb-true y y' (first_so (nat_eq y y') (eq_expr s.0 s') g) i) (s.1 s' (second_so (nat_eq y y') (eq_expr s.0 s') g) i))
same-Gen-From y s z h = absurd (false≢true (simp (generator.rolls-From, generator.rolls-Cond) at h))

same-Gen-Cond : (c : Known eq_expr) (z : Gen-F Expr Gen EventPart) → gen_laws.unfolded (roll-Gen (Gen-F.Cond c.0)) (roll-Gen z) ≡ true → roll-Gen (Gen-F.Cond c.0) ≡ roll-Gen z
same-Gen-Cond c (Gen-F.Cond c') h =
    let g : (eq_expr c.0 c') ≡ true = simp (generator.rolls-From, generator.rolls-Cond) at h in
    λ i. roll-Gen (Gen-F.Cond (c.1 c' (g) i))
same-Gen-Cond c z h = absurd (false≢true (simp (generator.rolls-From, generator.rolls-Cond) at h))

abbrev KE : Type 0
KE = Known eq_expr

abbrev KG : Type 0
KG = Known eq_gen

abbrev KP : Type 0
KP = Known eq_part

abbrev bare_part : EventPart-F KE KG KP → EventPart-F Expr Gen EventPart
bare_part x = map-EventPart KE KG KP Expr Gen EventPart (λ e. e.0) (λ e. e.0) (λ e. e.0) x

same-EventPart : (x : EventPart-F KE KG KP) (y : EventPart-F Expr Gen EventPart) → part_laws.unfolded (roll-EventPart (record { channel = x.channel; fields = map (λ e. e.0) x.fields })) (roll-EventPart y) ≡ true
    → roll-EventPart (record { channel = x.channel; fields = map (λ e. e.0) x.fields }) ≡ roll-EventPart y
same-EventPart x y h =
    let g : (nat_eq x.channel y.channel && pointwise eq_expr (map (λ e. e.0) x.fields) y.fields) ≡ true =
    subst (λ (d : EventPart-F Expr Gen EventPart). (nat_eq d.channel y.channel && pointwise eq_expr d.fields y.fields) ≡ true) (out-roll-EventPart (bare_part x))
    (subst (λ (d : EventPart-F Expr Gen EventPart). (nat_eq (out-EventPart (roll-EventPart (bare_part x))).channel d.channel && pointwise eq_expr (out-EventPart (roll-EventPart (bare_part x))).fields d.fields) ≡ true) (out-roll-EventPart y) h) in
    λ i. roll-EventPart (record {
      channel = eqb-true x.channel y.channel (first_so (nat_eq x.channel y.channel) (pointwise eq_expr (map (λ e. e.0) x.fields) y.fields) g) i;
      fields = same_items eq_expr x.fields y.fields (second_so (nat_eq x.channel y.channel) (pointwise eq_expr (map (λ e. e.0) x.fields) y.fields) g) i;
    })

-- a layer whose parts are known, without what is known of them
abbrev bare_expr : Expr-F KE KG KP → Expr-F Expr Gen EventPart
bare_expr x = map-Expr KE KG KP Expr Gen EventPart (λ e. e.0) (λ e. e.0) (λ e. e.0) x

abbrev bare_gen : Gen-F KE KG KP → Gen-F Expr Gen EventPart
bare_gen x = map-Gen KE KG KP Expr Gen EventPart (λ e. e.0) (λ e. e.0) (λ e. e.0) x

expr_layer : (x : Expr-F KE KG KP) (z : Expr-F Expr Gen EventPart) → eq_layer (bare_expr x) z ≡ true → roll-Expr (bare_expr x) ≡ roll-Expr z
expr_layer (Expr-F.Num n) (Expr-F.Num n') h = λ i. roll-Expr (Expr-F.Num ((Decides-int_eq n n').0 h i))
expr_layer (Expr-F.Truth b) (Expr-F.Truth b') h = λ i. roll-Expr (Expr-F.Truth (exact_bool b b' h i))
expr_layer (Expr-F.Const k) (Expr-F.Const k') h = λ i. roll-Expr (Expr-F.Const (eqb-true k k' h i))
expr_layer (Expr-F.Bound y) (Expr-F.Bound y') h = λ i. roll-Expr (Expr-F.Bound (eqb-true y y' h i))
expr_layer (Expr-F.Lit w) (Expr-F.Lit w') h = λ i. roll-Expr (Expr-F.Lit (exact_value w w' h i))
expr_layer (Expr-F.Neg a) (Expr-F.Neg a') h = λ i. roll-Expr (Expr-F.Neg (a.1 a' h i))
expr_layer (Expr-F.Not a) (Expr-F.Not a') h = λ i. roll-Expr (Expr-F.Not (a.1 a' h i))
expr_layer (Expr-F.Binary op a b) (Expr-F.Binary op' a' b') h =
    let g = second_so ((binops.ghosts).eq op op') (eq_expr a.0 a' && eq_expr b.0 b') h in
    λ i. roll-Expr (Expr-F.Binary (exact_binop op op' (first_so ((binops.ghosts).eq op op') (eq_expr a.0 a' && eq_expr b.0 b') h) i) (a.1 a' (first_so (eq_expr a.0 a') (eq_expr b.0 b') g) i) (b.1 b' (second_so (eq_expr a.0 a') (eq_expr b.0 b') g) i))
expr_layer (Expr-F.If c a b) (Expr-F.If c' a' b') h =
    let g = second_so (eq_expr c.0 c') (eq_expr a.0 a' && eq_expr b.0 b') h in
    λ i. roll-Expr (Expr-F.If (c.1 c' (first_so (eq_expr c.0 c') (eq_expr a.0 a' && eq_expr b.0 b') h) i) (a.1 a' (first_so (eq_expr a.0 a') (eq_expr b.0 b') g) i) (b.1 b' (second_so (eq_expr a.0 a') (eq_expr b.0 b') g) i))
expr_layer (Expr-F.Call d args) (Expr-F.Call d' args') h =
    λ i. roll-Expr (Expr-F.Call (eqb-true d d' (first_so (nat_eq d d') (pointwise eq_expr (map (λ e. e.0) args) args') h) i) (same_items eq_expr args args' (second_so (nat_eq d d') (pointwise eq_expr (map (λ e. e.0) args) args') h) i))
expr_layer (Expr-F.SetName d) (Expr-F.SetName d') h = λ i. roll-Expr (Expr-F.SetName (eqb-true d d' h i))
expr_layer (Expr-F.Event c fields) (Expr-F.Event c' fields') h =
    λ i. roll-Expr (Expr-F.Event (eqb-true c c' (first_so (nat_eq c c') (pointwise eq_expr (map (λ e. e.0) fields) fields') h) i) (same_items eq_expr fields fields' (second_so (nat_eq c c') (pointwise eq_expr (map (λ e. e.0) fields) fields') h) i))
expr_layer (Expr-F.Display items) (Expr-F.Display items') h = λ i. roll-Expr (Expr-F.Display (same_items eq_expr items items' h i))
expr_layer (Expr-F.Range a b) (Expr-F.Range a' b') h =
    λ i. roll-Expr (Expr-F.Range (a.1 a' (first_so (eq_expr a.0 a') (eq_expr b.0 b') h) i) (b.1 b' (second_so (eq_expr a.0 a') (eq_expr b.0 b') h) i))
expr_layer (Expr-F.Comp items gens) (Expr-F.Comp items' gens') h =
    λ i. roll-Expr (Expr-F.Comp (same_items eq_expr items items' (first_so (pointwise eq_expr (map (λ e. e.0) items) items') (pointwise eq_gen (map (λ e. e.0) gens) gens') h) i) (same_items eq_gen gens gens' (second_so (pointwise eq_expr (map (λ e. e.0) items) items') (pointwise eq_gen (map (λ e. e.0) gens) gens') h) i))
expr_layer (Expr-F.Product parts gens) (Expr-F.Product parts' gens') h =
    λ i. roll-Expr (Expr-F.Product (same_items eq_part parts parts' (first_so (pointwise eq_part (map (λ e. e.0) parts) parts') (pointwise eq_gen (map (λ e. e.0) gens) gens') h) i) (same_items eq_gen gens gens' (second_so (pointwise eq_part (map (λ e. e.0) parts) parts') (pointwise eq_gen (map (λ e. e.0) gens) gens') h) i))
expr_layer (Expr-F.SetOp op a b) (Expr-F.SetOp op' a' b') h =
    let g = second_so ((setops.ghosts).eq op op') (eq_expr a.0 a' && eq_expr b.0 b') h in
    λ i. roll-Expr (Expr-F.SetOp (exact_setop op op' (first_so ((setops.ghosts).eq op op') (eq_expr a.0 a' && eq_expr b.0 b') h) i) (a.1 a' (first_so (eq_expr a.0 a') (eq_expr b.0 b') g) i) (b.1 b' (second_so (eq_expr a.0 a') (eq_expr b.0 b') g) i))
expr_layer x z h = absurd (false≢true h)

gen_layer : (x : Gen-F KE KG KP) (y : Gen-F Expr Gen EventPart) → gen_laws.unfolded (roll-Gen (bare_gen x)) (roll-Gen y) ≡ true → roll-Gen (bare_gen x) ≡ roll-Gen y
gen_layer (Gen-F.From y s) = same-Gen-From y s
gen_layer (Gen-F.Cond c) = same-Gen-Cond c

expr_step : (z : Expr-F Expr Gen EventPart) (x : Expr-F KE KG KP) → bare_expr x ≡ z → IsSame eq_expr (roll-Expr z)
expr_step = same_rolled eq_expr roll-Expr out-Expr roll-out-Expr bare_expr (λ x y h. expr_layer x y (layered (bare_expr x) y (sym (expr_laws.is (roll-Expr (bare_expr x)) (roll-Expr y)) ∙ h)))

gen_step : (z : Gen-F Expr Gen EventPart) (x : Gen-F KE KG KP) → bare_gen x ≡ z → IsSame eq_gen (roll-Gen z)
gen_step = same_rolled eq_gen roll-Gen out-Gen roll-out-Gen bare_gen (λ x y h. gen_layer x y (sym (gen_laws.is (roll-Gen (bare_gen x)) (roll-Gen y)) ∙ h))

part_step : (z : EventPart-F Expr Gen EventPart) (x : EventPart-F KE KG KP) → bare_part x ≡ z → IsSame eq_part (roll-EventPart z)
part_step = same_rolled eq_part roll-EventPart out-EventPart roll-out-EventPart bare_part (λ x y h. same-EventPart x y (sym (part_laws.is (roll-EventPart (bare_part x)) (roll-EventPart y)) ∙ h))

pub exact_expr : (x y : Expr) → eq_expr x y ≡ true → x ≡ y
exact_expr = ind-Expr (IsSame eq_expr) (IsSame eq_gen) (IsSame eq_part) expr_step gen_step part_step

pub exact_gen : (x y : Gen) → eq_gen x y ≡ true → x ≡ y
exact_gen = ind-Gen (IsSame eq_expr) (IsSame eq_gen) (IsSame eq_part) expr_step gen_step part_step

pub exact_part : (x y : EventPart) → eq_part x y ≡ true → x ≡ y
exact_part = ind-EventPart (IsSame eq_expr) (IsSame eq_gen) (IsSame eq_part) expr_step gen_step part_step
