-- A substitution keeps the depth of an expression and a process, and whether they are in order.
use Rattle.substitution.proofs.Prelude.{◌≡◌, ℕ, suc, ◌+◌, ◌-◌, max, Bool, true, false, cond, ◌&&◌, nat_eq, Option, Some, None, List, [], ◌∷◌, map, length, refl, ap, sym, ◌∙◌, subst, slice_get, length-map, Value, expr_depth, expr_depth_of_layer, field_depth, gen_depth, gen_depth_of_layer, pair_depth, part_depth, part_depth_of_layer, proc_depth, proc_depth_of_layer, expr_in_order, expr_in_order_of_layer, field_count, field_in_order, fields_left, gen_in_order, gen_in_order_of_layer, head_in_order, is_process, pair_in_order, part_in_order, part_in_order_of_layer, proc_in_order, proc_in_order_of_layer, takes, value_in_order, all_true, after, after_all, expr_with, field_with, fields_with, gens_with, head_named, head_with, open_gen, pair_with, part_with, past, proc_with, without, Given, EventPart, Expr, fold-Gen, fold-EventPart, fold-roll-Expr, fold-roll-Gen, fold-roll-EventPart, map-Expr, map-Gen, fold-Expr, Expr-F, Gen-F, EventPart-F, out-EventPart, out-roll-EventPart, roll-Expr, roll-Gen, roll-EventPart, Gen, Field, Head, Proc, fold-roll-Proc, map-Proc, Proc-F, Every, ExprHas, GenHas, PartHas, ProcHas, each_expr, each_gen, each_part, each_proc, every, AreInOrder, greatest, Content}
use Rattle.csp_program.specs.declared.processes.Proc.{roll-Proc}
use Rattle.csp_program.specs.declared.processes.Field.TheVariants as field
use Rattle.csp_program.specs.declared.processes.Head.TheVariants as head
use Rattle.substitution.proofs.Forms.{expr_form, expr_is, gen_form, gen_is, left_by, left_is, named_form, part_form, part_is, part_with-fields, proc_form, proc_is}

-- Given values of which something holds, which holds without one of them too.
module _ (G : Given → Type 0) (fewer : (y : ℕ) (given : Given) → G given → G (without y given)) where
  -- what is computed of each part of a list is the same with the values
  all_keep : {A X : Type 0} (put : Given → X → X) (f : X → A) (xs : List X) → Every (λ x. (given : Given) → G given → f (put given x) ≡ f x) xs
      → (given : Given) → G given → map f (map (put given) xs) ≡ map f xs
  all_keep put f [] keep given ok = refl
  all_keep put f (x ∷ xs) keep given ok = λ i. keep.0 given ok i ∷ all_keep put f xs keep.1 given ok i

  gens_keep : {A : Type 0} (f : Gen → A) (gs : List Gen) → Every (λ g. (given : Given) → G given → (f ((open_gen g).0 given) ≡ f g) × G ((open_gen g).1 given)) gs
      → (given : Given) → G given → (map f (gens_with given gs) ≡ map f gs) × G (past gs given)
  gens_keep f [] keep given ok = (refl, ok)
  gens_keep f (g ∷ gs) keep given ok =
      let one = keep.0 given ok in
      let rest = gens_keep f gs keep.1 ((open_gen g).1 given) one.1 in
      (λ i. one.0 i ∷ rest.0 i, rest.1)

  fields_keep : {A : Type 0} (f : Field → A) → ((given : Given) → G given → (e : Field) → f (field_with given e) ≡ f e)
      → (fs : List Field) (given : Given) → G given → (map f (fields_with given fs) ≡ map f fs) × G (after_all fs given)
  fields_keep f keeps [] given ok = (refl, ok)
  fields_keep f keeps (field.Put e ∷ fs) given ok =
      let rest = fields_keep f keeps fs given ok in
      (λ i. keeps given ok (field.Put e) i ∷ rest.0 i, rest.1)
  fields_keep f keeps (field.Get y s ∷ fs) given ok =
      let rest = fields_keep f keeps fs (without y given) (fewer y given ok) in
      (λ i. keeps given ok (field.Get y s) i ∷ rest.0 i, rest.1)

  left_fits : (d : Gen-F Expr Gen EventPart) (given : Given) → G given → G (left_by d given)
  left_fits (Gen-F.From y s) given ok = fewer y given ok
  left_fits (Gen-F.Cond c) given ok = ok

  -- a fold that gives the same of a name and of the value that it gets gives the same of an expression with the values
  module _ (A A' A'' : Type 0) (of_expr : Expr-F A A' A'' → A) (of_gen : Gen-F A A' A'' → A') (of_part : EventPart-F A A' A'' → A'')
      (alike : (given : Given) → G given → (y : ℕ) (v : Value) → given y ≡ Some v → of_expr (Expr-F.Lit v) ≡ of_expr (Expr-F.Bound y)) where
    abbrev expr_fold : Expr → A
    expr_fold = fold-Expr A A' A'' of_expr of_gen of_part

    abbrev gen_fold : Gen → A'
    gen_fold = fold-Gen A A' A'' of_expr of_gen of_part

    abbrev part_fold : EventPart → A''
    part_fold = fold-EventPart A A' A'' of_expr of_gen of_part

    abbrev KeepsExpr : Expr → Type 0
    KeepsExpr e = (given : Given) → G given → expr_fold (expr_with given e) ≡ expr_fold e

    abbrev KeepsGen : Gen → Type 0
    KeepsGen g = (given : Given) → G given → (gen_fold ((open_gen g).0 given) ≡ gen_fold g) × G ((open_gen g).1 given)

    abbrev KeepsPart : EventPart → Type 0
    KeepsPart p = (given : Given) → G given → part_fold (part_with given p) ≡ part_fold p

    abbrev of_form : Expr-F Expr Gen EventPart → A
    of_form d = of_expr (map-Expr Expr Gen EventPart A A' A'' expr_fold gen_fold part_fold d)

    name_keeps : (given : Given) → G given → (y : ℕ) (found : Option Value) → given y ≡ found → of_form (named_form y found) ≡ of_expr (Expr-F.Bound y)
    name_keeps given ok y None is = refl
    name_keeps given ok y (Some v) is = alike given ok y v is

    exprs_keep : (es : List Expr) → Every KeepsExpr es → (given : Given) → G given → map expr_fold (map (expr_with given) es) ≡ map expr_fold es
    exprs_keep = all_keep expr_with expr_fold

    form_keeps : (d : Expr-F Expr Gen EventPart) → ExprHas KeepsExpr KeepsGen KeepsPart d → (given : Given) → G given → of_form (expr_form given d) ≡ of_form d
    form_keeps (Expr-F.Bound y) h given ok = name_keeps given ok y (given y) refl
    form_keeps (Expr-F.Neg a) h given ok = λ i. of_expr (Expr-F.Neg (h given ok i))
    form_keeps (Expr-F.Not a) h given ok = λ i. of_expr (Expr-F.Not (h given ok i))
    form_keeps (Expr-F.Binary o a b) h given ok = λ i. of_expr (Expr-F.Binary o (h.0 given ok i) (h.1 given ok i))
    form_keeps (Expr-F.If c a b) h given ok = λ i. of_expr (Expr-F.If (h.0 given ok i) (h.1 given ok i) (h.2 given ok i))
    form_keeps (Expr-F.Call d args) h given ok = λ i. of_expr (Expr-F.Call d (exprs_keep args h given ok i))
    form_keeps (Expr-F.Event c fields) h given ok = λ i. of_expr (Expr-F.Event c (exprs_keep fields h given ok i))
    form_keeps (Expr-F.Display items) h given ok = λ i. of_expr (Expr-F.Display (exprs_keep items h given ok i))
    form_keeps (Expr-F.Range a b) h given ok = λ i. of_expr (Expr-F.Range (h.0 given ok i) (h.1 given ok i))
    form_keeps (Expr-F.Comp items gens) h given ok =
        let under = gens_keep gen_fold gens h.1 given ok in
        λ i. of_expr (Expr-F.Comp (exprs_keep items h.0 (past gens given) under.1 i) (under.0 i))
    form_keeps (Expr-F.Product parts gens) h given ok =
        let under = gens_keep gen_fold gens h.1 given ok in
        λ i. of_expr (Expr-F.Product (all_keep part_with part_fold parts h.0 (past gens given) under.1 i) (under.0 i))
    form_keeps (Expr-F.SetOp o a b) h given ok = λ i. of_expr (Expr-F.SetOp o (h.0 given ok i) (h.1 given ok i))
    form_keeps d h given ok = refl

    expr_keeps : (d : Expr-F Expr Gen EventPart) → ExprHas KeepsExpr KeepsGen KeepsPart d → KeepsExpr (roll-Expr d)
    expr_keeps d h given ok =
        ap expr_fold (expr_is given d) ∙
        (fold-roll-Expr A A' A'' of_expr of_gen of_part (expr_form given d) ∙ (form_keeps d h given ok ∙ sym (fold-roll-Expr A A' A'' of_expr of_gen of_part d)))

    abbrev of_gen_form : Gen-F Expr Gen EventPart → A'
    of_gen_form d = of_gen (map-Gen Expr Gen EventPart A A' A'' expr_fold gen_fold part_fold d)

    gen_form_keeps : (d : Gen-F Expr Gen EventPart) → GenHas KeepsExpr KeepsGen KeepsPart d → (given : Given) → G given → of_gen_form (gen_form given d) ≡ of_gen_form d
    gen_form_keeps (Gen-F.From y s) h given ok = λ i. of_gen (Gen-F.From y (h given ok i))
    gen_form_keeps (Gen-F.Cond c) h given ok = λ i. of_gen (Gen-F.Cond (h given ok i))

    gen_keeps : (d : Gen-F Expr Gen EventPart) → GenHas KeepsExpr KeepsGen KeepsPart d → KeepsGen (roll-Gen d)
    gen_keeps d h given ok = (
      ap gen_fold (gen_is given d) ∙
          (fold-roll-Gen A A' A'' of_expr of_gen of_part (gen_form given d) ∙ (gen_form_keeps d h given ok ∙ sym (fold-roll-Gen A A' A'' of_expr of_gen of_part d))),
      subst (λ (left : Given → Given). G (left given)) (sym (left_is d)) (left_fits d given ok),
    )

    part_keeps : (d : EventPart-F Expr Gen EventPart) → PartHas KeepsExpr KeepsGen KeepsPart d → KeepsPart (roll-EventPart d)
    part_keeps d h given ok =
        ap part_fold (part_is given d) ∙
        (fold-roll-EventPart A A' A'' of_expr of_gen of_part (part_form given d) ∙
        ((λ i. of_part (record { channel = d.channel; fields = exprs_keep d.fields h given ok i })) ∙
        sym (fold-roll-EventPart A A' A'' of_expr of_gen of_part d)))

    expr_fold_keeps : (e : Expr) → KeepsExpr e
    expr_fold_keeps = each_expr KeepsExpr KeepsGen KeepsPart expr_keeps gen_keeps part_keeps

    exprs_fold_keep : (es : List Expr) (given : Given) → G given → map expr_fold (map (expr_with given) es) ≡ map expr_fold es
    exprs_fold_keep es = exprs_keep es (every KeepsExpr expr_fold_keeps es)

    gens_fold_keep : (gs : List Gen) (given : Given) → G given → (map gen_fold (gens_with given gs) ≡ map gen_fold gs) × G (past gs given)
    gens_fold_keep gs = gens_keep gen_fold gs (every KeepsGen (each_gen KeepsExpr KeepsGen KeepsPart expr_keeps gen_keeps part_keeps) gs)

    part_fold_keeps : (p : EventPart) → KeepsPart p
    part_fold_keeps = each_part KeepsExpr KeepsGen KeepsPart expr_keeps gen_keeps part_keeps

-- ---- depth

abbrev Any : Given → Type 0
Any given = Unit {0}

any_fewer : (y : ℕ) (given : Given) → Any given → Any (without y given)
any_fewer y given ok = tt

pub expr_keeps_depth : (given : Given) (e : Expr) → expr_depth (expr_with given e) ≡ expr_depth e
expr_keeps_depth given e =
    expr_fold_keeps Any any_fewer ℕ ℕ ℕ expr_depth_of_layer gen_depth_of_layer part_depth_of_layer (λ g ok y v is. refl) e given tt

exprs_keep_depth : (es : List Expr) (given : Given) → map expr_depth (map (expr_with given) es) ≡ map expr_depth es
exprs_keep_depth es given =
    exprs_fold_keep Any any_fewer ℕ ℕ ℕ expr_depth_of_layer gen_depth_of_layer part_depth_of_layer (λ g ok y v is. refl) es given tt

gens_keep_depth : (gs : List Gen) (given : Given) → map gen_depth (gens_with given gs) ≡ map gen_depth gs
gens_keep_depth gs given =
    (gens_fold_keep Any any_fewer ℕ ℕ ℕ expr_depth_of_layer gen_depth_of_layer part_depth_of_layer (λ g ok y v is. refl) gs given tt).0

part_keeps_depth : (given : Given) (p : EventPart) → part_depth (part_with given p) ≡ part_depth p
part_keeps_depth given p =
    part_fold_keeps Any any_fewer ℕ ℕ ℕ expr_depth_of_layer gen_depth_of_layer part_depth_of_layer (λ g ok y v is. refl) p given tt

pairs_keep_depth : (pairs : List (EventPart × EventPart)) (given : Given) → map pair_depth (map (pair_with given) pairs) ≡ map pair_depth pairs
pairs_keep_depth [] given = refl
pairs_keep_depth (p ∷ pairs) given = λ i. max (part_keeps_depth given p.0 i) (part_keeps_depth given p.1 i) ∷ pairs_keep_depth pairs given i

field_keeps_depth : (given : Given) → Any given → (f : Field) → field_depth (field_with given f) ≡ field_depth f
field_keeps_depth given ok (field.Put e) = expr_keeps_depth given e
field_keeps_depth given ok (field.Get y (Some s)) = expr_keeps_depth given s
field_keeps_depth given ok (field.Get y None) = refl

abbrev KeepsDepth : Proc → Type 0
KeepsDepth p = (given : Given) → Any given → proc_depth (proc_with given p) ≡ proc_depth p

abbrev depth_of : Proc-F Proc → ℕ
depth_of d = proc_depth_of_layer (map-Proc Proc ℕ proc_depth d)

form_keeps_depth : (d : Proc-F Proc) → ProcHas KeepsDepth d → (given : Given) → Any given → depth_of (proc_form given d) ≡ depth_of d
form_keeps_depth (Proc-F.Prefix k fields p) h given ok =
    λ i. 1 + max (greatest ((fields_keep Any any_fewer field_depth field_keeps_depth fields given ok).0 i)) (h (after_all fields given) ok i)
form_keeps_depth (Proc-F.Guard c p) h given ok = λ i. 1 + max (expr_keeps_depth given c i) (h given ok i)
form_keeps_depth (Proc-F.If c p q) h given ok = λ i. 1 + max (expr_keeps_depth given c i) (max (h.0 given ok i) (h.1 given ok i))
form_keeps_depth (Proc-F.External ps) h given ok = λ i. 1 + greatest (all_keep Any any_fewer proc_with proc_depth ps h given ok i)
form_keeps_depth (Proc-F.Internal ps) h given ok = λ i. 1 + greatest (all_keep Any any_fewer proc_with proc_depth ps h given ok i)
form_keeps_depth (Proc-F.EachExternal y s p) h given ok = λ i. 1 + max (expr_keeps_depth given s i) (h (without y given) ok i)
form_keeps_depth (Proc-F.EachInternal y s p) h given ok = λ i. 1 + max (expr_keeps_depth given s i) (h (without y given) ok i)
form_keeps_depth (Proc-F.Hide p s) h given ok = λ i. 1 + max (h given ok i) (expr_keeps_depth given s i)
form_keeps_depth (Proc-F.Rename p pairs gens) h given ok =
    λ i. 1 + max (h given ok i) (max (greatest (pairs_keep_depth pairs (past gens given) i)) (greatest (gens_keep_depth gens given i)))
form_keeps_depth (Proc-F.Call d args) h given ok = λ i. 1 + greatest (exprs_keep_depth args given i)
form_keeps_depth (Proc-F.Seq p q) h given ok = λ i. 1 + max (h.0 given ok i) (h.1 given ok i)
form_keeps_depth d h given ok = refl

depth_step : (d : Proc-F Proc) → ProcHas KeepsDepth d → KeepsDepth (roll-Proc d)
depth_step d h given ok =
    ap proc_depth (proc_is given d) ∙ (fold-roll-Proc ℕ proc_depth_of_layer (proc_form given d) ∙ (form_keeps_depth d h given ok ∙ sym (fold-roll-Proc ℕ proc_depth_of_layer d)))

pub proc_keeps_depth : (given : Given) (t : Proc) → proc_depth (proc_with given t) ≡ proc_depth t
proc_keeps_depth given t = each_proc KeepsDepth depth_step t given tt

-- ---- order

module _ (p : Content) where
  fewer_in_order : (y : ℕ) (given : Given) → AreInOrder p given → AreInOrder p (without y given)
  fewer_in_order y given ok = λ x v is. ok x v (found (nat_eq y x) (given x) v is)
    where
      found : (b : Bool) (o : Option Value) (v : Value) → cond b None o ≡ Some v → o ≡ Some v
      found true o v is = cc
      found false o v is = is

  alike_in_order : (given : Given) → AreInOrder p given → (y : ℕ) (v : Value) → given y ≡ Some v → value_in_order p v ≡ true
  alike_in_order given ok y v is = ok y v is

  pub expr_keeps_order : (given : Given) → AreInOrder p given → (e : Expr) → expr_in_order p (expr_with given e) ≡ expr_in_order p e
  expr_keeps_order given ok e =
      expr_fold_keeps (AreInOrder p) fewer_in_order Bool Bool Bool (expr_in_order_of_layer p) (gen_in_order_of_layer p) (part_in_order_of_layer p) alike_in_order e given ok

  exprs_keep_order : (es : List Expr) (given : Given) → AreInOrder p given → map (expr_in_order p) (map (expr_with given) es) ≡ map (expr_in_order p) es
  exprs_keep_order =
      exprs_fold_keep (AreInOrder p) fewer_in_order Bool Bool Bool (expr_in_order_of_layer p) (gen_in_order_of_layer p) (part_in_order_of_layer p) alike_in_order

  gens_keep_order : (gs : List Gen) (given : Given) → AreInOrder p given → (map (gen_in_order p) (gens_with given gs) ≡ map (gen_in_order p) gs) × AreInOrder p (past gs given)
  gens_keep_order =
      gens_fold_keep (AreInOrder p) fewer_in_order Bool Bool Bool (expr_in_order_of_layer p) (gen_in_order_of_layer p) (part_in_order_of_layer p) alike_in_order

  part_keeps_order : (given : Given) → AreInOrder p given → (part : EventPart) → part_in_order p (part_with given part) ≡ part_in_order p part
  part_keeps_order given ok part =
      part_fold_keeps (AreInOrder p) fewer_in_order Bool Bool Bool (expr_in_order_of_layer p) (gen_in_order_of_layer p) (part_in_order_of_layer p) alike_in_order part given ok

  left_keeps : (given : Given) (part : EventPart) → fields_left p (part_with given part) ≡ fields_left p part
  left_keeps given part =
      let form = part_form given (out-EventPart part) in
      ap (λ (q : EventPart-F Expr Gen EventPart). field_count (slice_get p.channels q.channel) - length q.fields)
      (ap out-EventPart (part_with-fields given part) ∙ out-roll-EventPart form) ∙
      ap (λ n. field_count (slice_get p.channels (out-EventPart part).channel) - n) (length-map (out-EventPart part).fields (expr_with given))

  pairs_keep_order : (pairs : List (EventPart × EventPart)) (given : Given) → AreInOrder p given → map (pair_in_order p) (map (pair_with given) pairs) ≡ map (pair_in_order p) pairs
  pairs_keep_order [] given ok = refl
  pairs_keep_order (q ∷ pairs) given ok = λ i.
      (part_keeps_order given ok q.0 i && (part_keeps_order given ok q.1 i && nat_eq (left_keeps given q.0 i) (left_keeps given q.1 i))) ∷
      pairs_keep_order pairs given ok i

  and_true : (b : Bool) → (b && true) ≡ b
  and_true true = refl
  and_true false = refl

  named_keeps_order : (given : Given) → AreInOrder p given → (y : ℕ) (n : ℕ) (found : Option Value) → given y ≡ found → head_in_order p (head_named y found) n ≡ nat_eq n 0
  named_keeps_order given ok y n None is = refl
  named_keeps_order given ok y n (Some v) is = ap (λ b. nat_eq n 0 && b) (ok y v is) ∙ and_true (nat_eq n 0)

  head_keeps_order : (given : Given) → AreInOrder p given → (k : Head) (n : ℕ) → head_in_order p (head_with given k) n ≡ head_in_order p k n
  head_keeps_order given ok (head.Channel c) n = refl
  head_keeps_order given ok (head.Put w) n = refl
  head_keeps_order given ok (head.Bound y) n = named_keeps_order given ok y n (given y) refl

  field_keeps_order : (given : Given) → AreInOrder p given → (f : Field) → field_in_order p (field_with given f) ≡ field_in_order p f
  field_keeps_order given ok (field.Put e) = expr_keeps_order given ok e
  field_keeps_order given ok (field.Get y (Some s)) = expr_keeps_order given ok s
  field_keeps_order given ok (field.Get y None) = refl

  abbrev KeepsOrder : Proc → Type 0
  KeepsOrder q = (given : Given) → AreInOrder p given → proc_in_order p (proc_with given q) ≡ proc_in_order p q

  abbrev order_of : Proc-F Proc → Bool
  order_of d = proc_in_order_of_layer p (map-Proc Proc Bool (proc_in_order p) d)

  form_keeps_order : (d : Proc-F Proc) → ProcHas KeepsOrder d → (given : Given) → AreInOrder p given → order_of (proc_form given d) ≡ order_of d
  form_keeps_order (Proc-F.Prefix k fields q) h given ok =
      let kept = fields_keep (AreInOrder p) fewer_in_order (field_in_order p) field_keeps_order fields given ok in
      let count : length (fields_with given fields) ≡ length fields = fields_length fields given in
      (λ i. head_in_order p (head_with given k) (count i) && (all_true (kept.0 i) && h (after_all fields given) kept.1 i)) ∙
      (λ i. head_keeps_order given ok k (length fields) i && (all_true (map (field_in_order p) fields) && proc_in_order p q))
    where
      fields_length : (fs : List Field) (given : Given) → length (fields_with given fs) ≡ length fs
      fields_length [] given = refl
      fields_length (f ∷ fs) given = ap suc (fields_length fs (after f given))
  form_keeps_order (Proc-F.Guard c q) h given ok = λ i. expr_keeps_order given ok c i && h given ok i
  form_keeps_order (Proc-F.If c q r) h given ok = λ i. expr_keeps_order given ok c i && (h.0 given ok i && h.1 given ok i)
  form_keeps_order (Proc-F.External qs) h given ok = λ i. all_true (all_keep (AreInOrder p) fewer_in_order proc_with (proc_in_order p) qs h given ok i)
  form_keeps_order (Proc-F.Internal qs) h given ok = λ i. all_true (all_keep (AreInOrder p) fewer_in_order proc_with (proc_in_order p) qs h given ok i)
  form_keeps_order (Proc-F.EachExternal y s q) h given ok = λ i. expr_keeps_order given ok s i && h (without y given) (fewer_in_order y given ok) i
  form_keeps_order (Proc-F.EachInternal y s q) h given ok = λ i. expr_keeps_order given ok s i && h (without y given) (fewer_in_order y given ok) i
  form_keeps_order (Proc-F.Hide q s) h given ok = λ i. h given ok i && expr_keeps_order given ok s i
  form_keeps_order (Proc-F.Rename q pairs gens) h given ok =
      let kept = gens_keep_order gens given ok in
      λ i. h given ok i && (all_true (pairs_keep_order pairs (past gens given) kept.1 i) && all_true (kept.0 i))
  form_keeps_order (Proc-F.Call d args) h given ok =
      λ i. takes is_process (length-map args (expr_with given) i) (slice_get p.defs d) && all_true (exprs_keep_order args given ok i)
  form_keeps_order (Proc-F.Seq q r) h given ok = λ i. h.0 given ok i && h.1 given ok i
  form_keeps_order d h given ok = refl

  order_step : (d : Proc-F Proc) → ProcHas KeepsOrder d → KeepsOrder (roll-Proc d)
  order_step d h given ok =
      ap (proc_in_order p) (proc_is given d) ∙
      (fold-roll-Proc Bool (proc_in_order_of_layer p) (proc_form given d) ∙ (form_keeps_order d h given ok ∙ sym (fold-roll-Proc Bool (proc_in_order_of_layer p) d)))

  pub proc_keeps_order : (given : Given) → AreInOrder p given → (q : Proc) → proc_in_order p (proc_with given q) ≡ proc_in_order p q
  proc_keeps_order given ok q = each_proc KeepsOrder order_step q given ok
