-- Where a tree is an expression by the rules of typing, it is read as that expression, it passes, and it reaches as deep as the expression is.
use Rattle.typed_laws.proofs.Sources.{◌≡◌, roll-Tree, ℕ, ◌+◌, ◌<◌, pos, Bool, true, false, nat_lt, None, List, [], ◌∷◌, length, map, refl, sym, ◌∙◌, ap, subst, append-nil, arith, max, length-map, greatest, expanded_depth, gen_expanded_depth, part_expanded_depth, below, deepest, when, Meanings, Name, sense_in, Binder, Fields, Said, all_say, in_turn, part_says, tree_says, Scope, names_of, with, Binding, Front, Reading, all_bind, bindings, bindings_bind, channel_number, definition_number, exprs, named, part, parts, parts_bind, reading, under, AreExprs, AreFronts, AreGens, IsExpr, IsFront, event_part, Binds, EventPart, Expr, Expr-F, Form, Gen, Gen-F, GenTree, GenTree-F, Kind, PartTree, Place, Sense, Tree, Tree-F, Uses, Class, Entity, Use}
use Rattle.csp_text.specs.declared.tree.GenTree.TheVariants as generator
use Rattle.csp_text.specs.declared.tree.Tree.TheVariants as tree
use Rattle.csp_program.specs.declared.expressions.Expr.TheVariants as expr
use Rattle.csp_program.specs.declared.expressions.Gen.TheVariants as gen_of
use Rattle.script_names.specs.Says as says
use Rattle.script_names.specs.Typing as t
use Rattle.typed_laws.proofs.Trees.{TreeLayer, at_gen, at_part, at_tree, of_gen, of_part, reads, saying, tree_layer}
use Rattle.typed_laws.proofs.Deep.{above, below_form, expr_layer, gen_layer, none_below, one_below, part_layer, two_below}
use Rattle.typed_laws.proofs.Passing.{AllPass, Passes, data_at, form_passes, join, join_three, use_passes}
use Rattle.typed_laws.proofs.ScopeNames.{add_names, gen_names, names_with}
use Rattle.typed_laws.proofs.Senses.{bind_passes, bound_is, call_passes, definition_passes, dotted_passes, means_is}

pub add_next : (n a b i k : ℕ) → n + a ≡ i → i + b ≡ k → n + (a + b) ≡ k
add_next n a b i k h g = omega arith

pub add_three : (n a b c i j k : ℕ) → n + a ≡ i → i + b ≡ j → j + c ≡ k → n + (a + b + c) ≡ k
add_three n a b c i j k h g l = omega arith

pub one_next : (n a i : ℕ) → (n + 1) + a ≡ i → n + (1 + a) ≡ i
one_next n a i h = omega arith

pub none_next : (n : ℕ) → n + 0 ≡ n
none_next n = omega arith

some_more : (d k : ℕ) → d ≡ 1 + k → 0 < d
some_more d k h = omega arith

zero_or : (k : ℕ) → max 0 k ≡ k
zero_or k = omega arith

alone_deep : (l k : ℕ) → max (l + 1 + k) 0 ≡ l + (1 + k)
alone_deep l k = omega arith

call_deep : (l d x g : ℕ) → max (l + 1) x ≡ (l + 1) + g → max (l + 1 + d) x ≡ l + (1 + max d g)
call_deep l d x g h = omega arith

or_none : (d : ℕ) → 1 + max d 0 ≡ 1 + d
or_none d = omega arith

some_of : (a b : ℕ) → 0 < a → 0 < max a b
some_of a b h = omega arith

pub some_left : (a left n : ℕ) → a + left ≡ n → nat_lt n a ≡ false
some_left a left n h = grind arith

module _ (m : Meanings) (ks : List Kind) where
  -- a tree that says s and is read as r
  pub record ExprIs (s : Said) (r : Reading) (scope : Scope) (n : ℕ) (e : Expr) (k : ℕ) : Type 0 where
    pub value : r.expr scope n ≡ e
    pub next : n + r.binds ≡ k
    pub passes : (b : Bool) (l : ℕ) → AllPass m ks (s (data_at b l) (names_of scope))
    pub deep : (f : ℕ → ℕ) (b : Bool) (l : ℕ) → deepest f (s (data_at b (l + 1)) (names_of scope)) ≡ l + expanded_depth f e
    pub some : (f : ℕ → ℕ) → 0 < expanded_depth f e

  pub record ExprsAre (ss : List Said) (rs : List Reading) (scope : Scope) (n : ℕ) (es : List Expr) (k : ℕ) : Type 0 where
    pub value : exprs rs scope n ≡ es
    pub next : n + all_bind rs ≡ k
    pub passes : (b : Bool) (l : ℕ) → AllPass m ks (all_say ss (data_at b l) (names_of scope))
    pub deep : (f : ℕ → ℕ) (b : Bool) (l : ℕ) → max l (deepest f (all_say ss (data_at b (l + 1)) (names_of scope))) ≡ l + greatest (map (expanded_depth f) es)

  pub record GensAre (bs : List Binder) (gs : List (Binding Gen)) (scope : Scope) (n : ℕ) (es : List Gen) (inner : Scope) (k : ℕ) : Type 0 where
    pub value : bindings gs scope n ≡ es
    pub after : under gs scope n ≡ inner
    pub next : n + bindings_bind gs ≡ k
    pub passes : (place : Place) → AllPass m ks (in_turn bs place (names_of scope))
    pub deep : (f : ℕ → ℕ) (place : Place) → max place.level (deepest f (in_turn bs place (names_of scope))) ≡ place.level + greatest (map (gen_expanded_depth f) es)

  pub record FrontIs (s : Fields Said) (r : Front Reading) (scope : Scope) (n : ℕ) (e : EventPart) (left k : ℕ) : Type 0 where
    pub value : part m ks r scope n ≡ e
    pub next : n + all_bind r.fields ≡ k
    pub channel : ℕ
    pub fields : ℕ
    pub means : sense_in m (names_of scope) s.name ≡ Sense.Declared (Entity.Channel channel fields)
    pub count : length s.fields + left ≡ fields
    pub passes : (place : Place) → AllPass m ks (part_says m s place (names_of scope))
    pub deep : (f : ℕ → ℕ) (place : Place) → max place.level (deepest f (part_says m s place (names_of scope))) ≡ place.level + part_expanded_depth f e

  pub record FrontsAre (ss : List (Fields Said)) (rs : List (Front Reading)) (scope : Scope) (n : ℕ) (es : List EventPart) (k : ℕ) : Type 0 where
    pub value : parts m ks rs scope n ≡ es
    pub next : n + parts_bind rs ≡ k
    pub passes : (place : Place) → AllPass m ks (all_say (map (part_says m) ss) place (names_of scope))
    pub deep : (f : ℕ → ℕ) (place : Place) → max place.level (deepest f (all_say (map (part_says m) ss) place (names_of scope)))
        ≡ place.level + greatest (map (part_expanded_depth f) es)

  pub begins_passes : (x : Name) (c n k left : ℕ) → k + left ≡ n → Passes m ks (Uses x (Sense.Declared (Entity.Channel c n)) (Use.Begins k))
  begins_passes x c n k left h =
      record { known = refl; once = refl; kind = refl; count = ap (λ b. when b x) (some_left k left n h); inside = refl }

  -- what generators add to a scope is what they say that they bind
  pub names_after : (ts : List GenTree) (scope : Scope) (n : ℕ) {inner : Scope} → under (map (of_gen (reads m ks)) ts) scope n ≡ inner
      → names_of inner ≡ says.under (map (of_gen (saying m ks)) ts) (names_of scope)
  names_after ts scope n h = ap names_of (sym h) ∙ add_names (of_gen (saying m ks)) (of_gen (reads m ks)) (gen_names m ks) ts scope n

  -- ---- forms of data

  -- what the layer has that a tree is rolled of
  expr_at : (d : TreeLayer) {a : Tree} → roll-Tree d ≡ a → {scope : Scope} {n : ℕ} {e : Expr} {k : ℕ}
      → ExprIs (tree_layer (saying m ks) d) (tree_layer (reads m ks) d) scope n e k → ExprIs (tree_says m a) (reading m ks a) scope n e k
  expr_at d is {scope} {n} {e} {k} h = at_tree m ks (λ _ s r. ExprIs s r scope n e k) d is h

  -- a Form above parts
  form_is : {rest : Said} {r : Reading} {scope : Scope} {n : ℕ} {e : Expr} {k : ℕ} (d : (ℕ → ℕ) → ℕ) → r.expr scope n ≡ e → n + r.binds ≡ k
      → ((b : Bool) (l : ℕ) → AllPass m ks (rest (data_at b l) (names_of scope)))
      → ((f : ℕ → ℕ) (b : Bool) (l : ℕ) → max (l + 1) (deepest f (rest (data_at b (l + 1)) (names_of scope))) ≡ (l + 1) + d f)
      → ((f : ℕ → ℕ) → expanded_depth f e ≡ 1 + d f) → ExprIs (λ place names. Form Class.Data place ∷ rest place names) r scope n e k
  form_is {rest} {r} {scope} {n} {e} {k} d value next passes deep depth = record {
    value = value;
    next = next;
    passes = λ b l. (form_passes m ks Class.Data (data_at b l) refl, passes b l);
    deep = λ f b l. below_form l (deepest f (rest (data_at b (l + 1)) (names_of scope))) (d f) (deep f b l) ∙ ap (λ z. l + z) (sym (depth f));
    some = λ f. some_more (expanded_depth f e) (d f) (depth f);
  }

  -- a Form without parts
  leaf_is : {r : Reading} {scope : Scope} {n : ℕ} {e : Expr} → r.expr scope n ≡ e → r.binds ≡ 0 → ((f : ℕ → ℕ) → expanded_depth f e ≡ 1 + 0)
      → ExprIs (λ place names. Form Class.Data place ∷ []) r scope n e n
  leaf_is {n = n} value none depth = form_is (λ f. 0) value (ap (λ z. n + z) none ∙ none_next n) (λ b l. tt) (λ f b l. none_below (l + 1)) depth

  -- a name alone
  alone_is : {r : Reading} {scope : Scope} {n : ℕ} {x : Name} {z : Sense} {e : Expr} → sense_in m (names_of scope) x ≡ z → r.expr scope n ≡ e → r.binds ≡ 0
      → ((b : Bool) (l : ℕ) → Passes m ks (Uses x z (Use.Alone (data_at b l)))) → ((f : ℕ → ℕ) → expanded_depth f e ≡ 1 + below f z)
      → ExprIs (λ place names. Uses x (sense_in m names x) (Use.Alone place) ∷ []) r scope n e n
  alone_is {r} {scope} {n} {x} {z} {e} is value none passes depth = record {
    value = value;
    next = ap (λ y. n + y) none ∙ none_next n;
    passes = λ b l. (use_passes m ks x (sense_in m (names_of scope) x) z (Use.Alone (data_at b l)) is (passes b l), tt);
    deep = λ f b l. alone_deep l (below f (sense_in m (names_of scope) x)) ∙ ap (λ y. l + (1 + below f y)) is ∙ ap (λ y. l + y) (sym (depth f));
    some = λ f. some_more (expanded_depth f e) (below f z) (depth f);
  }

  mutual
    pub expr_is : {scope : Scope} {n k : ℕ} {a : Tree} {e : Expr} → IsExpr m ks scope n a e k → ExprIs (tree_says m a) (reading m ks a) scope n e k
    expr_is (t.number {k = k}) = expr_at (Tree-F.Num k) (tree.rolls-Num _) (leaf_is refl refl (λ f. expr_layer f (Expr-F.Num (pos k)) (expr.rolls-Num _)))
    expr_is t.truth = expr_at Tree-F.True tree.rolls-True (leaf_is refl refl (λ f. expr_layer f (Expr-F.Truth true) (expr.rolls-Truth _)))
    expr_is t.falsehood = expr_at Tree-F.False tree.rolls-False (leaf_is refl refl (λ f. expr_layer f (Expr-F.Truth false) (expr.rolls-Truth _)))
    expr_is {scope} (t.bound {b = b} {x = x} h) =
        expr_at (Tree-F.Name x) (tree.rolls-Name _) (alone_is (bound_is m ks scope x b h) (ap (λ o. named o (m x)) h) refl (λ b l. record { known = refl; once = refl; kind = refl; count = refl; inside = refl })
        (λ f. expr_layer f (Expr-F.Bound b) (expr.rolls-Bound _)))
    expr_is {scope} (t.event {c = c} {x = x} h) =
        expr_at (Tree-F.Name x) (tree.rolls-Name _) (alone_is (means_is m ks scope x (Entity.Channel c 0) h)
        (ap (λ o. named o (m x)) h.0 ∙ ap (named None) h.1) refl (λ b l. record { known = refl; once = refl; kind = refl; count = refl; inside = refl }) (λ f. expr_layer f (Expr-F.Event c []) (expr.rolls-Event _ _)))
    expr_is {scope} (t.constant {k = k} {x = x} h) =
        expr_at (Tree-F.Name x) (tree.rolls-Name _) (alone_is (means_is m ks scope x (Entity.Constant k) h)
        (ap (λ o. named o (m x)) h.0 ∙ ap (named None) h.1) refl (λ b l. record { known = refl; once = refl; kind = refl; count = refl; inside = refl }) (λ f. expr_layer f (Expr-F.Const k) (expr.rolls-Const _)))
    expr_is {scope} (t.datum {d = d} {x = x} h is) =
        expr_at (Tree-F.Name x) (tree.rolls-Name _) (alone_is (means_is m ks scope x (Entity.Definition d 0) h)
        (ap (λ o. named o (m x)) h.0 ∙ ap (named None) h.1) refl (λ b l. definition_passes m ks x d _ (data_at b l) is refl refl)
        (λ f. expr_layer f (Expr-F.Call d []) (expr.rolls-Call _ _) ∙ or_none (f d)))
    expr_is {scope} (t.named_set {d = d} {x = x} h) =
        expr_at (Tree-F.Name x) (tree.rolls-Name _) (alone_is (means_is m ks scope x (Entity.Set d) h)
        (ap (λ o. named o (m x)) h.0 ∙ ap (named None) h.1) refl (λ b l. record { known = refl; once = refl; kind = refl; count = refl; inside = refl }) (λ f. expr_layer f (Expr-F.SetName d) (expr.rolls-SetName _)))
    expr_is {scope} (t.call {d = d} {f = x} {args = args} {es = es} h is g) =
        let w = exprs_are g in
        expr_at (Tree-F.Call x args) (tree.rolls-Call _ _) (record {
          value = λ i. expr.Call (ap definition_number h.1 i) (w.value i);
          next = w.next;
          passes = λ b l. (
            use_passes m ks x _ _ _ (means_is m ks scope x (Entity.Definition d (length args)) h)
                (call_passes m ks x d (length args) (length (map (tree_says m) args)) _ (data_at b l) is refl refl (length-map args (tree_says m))),
            w.passes false (l + 1),
          );
          deep = λ f b l. ap (λ z. max (l + 1 + below f z) (deepest f (all_say (map (tree_says m) args) (data_at false (l + 1 + 1)) (names_of scope))))
              (means_is m ks scope x (Entity.Definition d (length args)) h)
              ∙ call_deep l (f d) (deepest f (all_say (map (tree_says m) args) (data_at false (l + 1 + 1)) (names_of scope)))
              (greatest (map (expanded_depth f) es)) (w.deep f false (l + 1))
              ∙ ap (λ z. l + z) (sym (expr_layer f (Expr-F.Call d es) (expr.rolls-Call _ _)));
          some = λ f. some_more (expanded_depth f (expr.Call d es)) (max (f d) (greatest (map (expanded_depth f) es))) (expr_layer f (Expr-F.Call d es) (expr.rolls-Call _ _));
        })
    expr_is {scope} (t.dotted {c = c} {x = x} {fields = fields} {es = es} h g) =
        let w = exprs_are g in
        expr_at (Tree-F.«Tree::Dot» x fields) (tree.rolls-Dot _ _) (form_is (λ f. greatest (map (expanded_depth f) es))
        (λ i. expr.Event (ap channel_number h.1 i) (w.value i)) w.next
        (λ b l. (
          use_passes m ks x _ _ _ (means_is m ks scope x (Entity.Channel c (length fields)) h)
              (dotted_passes m ks x c (length fields) (length (map (tree_says m) fields)) (length-map fields (tree_says m))),
          w.passes false (l + 1),
        ))
        (λ f b l. ap (max (l + 1)) (zero_or (deepest f (all_say (map (tree_says m) fields) (data_at false (l + 1 + 1)) (names_of scope)))) ∙ w.deep f false (l + 1))
        (λ f. expr_layer f (Expr-F.Event c es) (expr.rolls-Event _ _)))
    expr_is (t.negative {a = a} {e = e} h) =
        let w = expr_is h in
        expr_at (Tree-F.Neg a) (tree.rolls-Neg _) (form_is (λ f. expanded_depth f e) (ap expr.Neg w.value) w.next (λ b l. w.passes false (l + 1))
        (λ f b l. one_below _ _ _ (w.deep f false (l + 1))) (λ f. expr_layer f (Expr-F.Neg e) (expr.rolls-Neg _)))
    expr_is (t.negation {a = a} {e = e} h) =
        let w = expr_is h in
        expr_at (Tree-F.Not a) (tree.rolls-Not _) (form_is (λ f. expanded_depth f e) (ap expr.Not w.value) w.next (λ b l. w.passes false (l + 1))
        (λ f b l. one_below _ _ _ (w.deep f false (l + 1))) (λ f. expr_layer f (Expr-F.Not e) (expr.rolls-Not _)))
    expr_is {scope} (t.binary {i = i} {op = op} {a = a} {b = b} {e = e} {f = g} h h') =
        let w = expr_is h in let v = expr_is h' in
        expr_at (Tree-F.Binary op a b) (tree.rolls-Binary _ _ _) (form_is (λ f. max (expanded_depth f e) (expanded_depth f g))
        (λ j. expr.Binary op (w.value j) ((ap ((reading m ks b).expr scope) w.next ∙ v.value) j)) (add_next _ _ _ _ _ w.next v.next)
        (λ c l. join (Passes m ks) _ _ (w.passes false (l + 1)) (v.passes false (l + 1)))
        (λ f c l. two_below f _ _ _ _ _ (one_below _ _ _ (w.deep f false (l + 1))) (one_below _ _ _ (v.deep f false (l + 1))))
        (λ f. expr_layer f (Expr-F.Binary op e g) (expr.rolls-Binary _ _ _)))
    expr_is {scope} (t.expr_if {c = c} {a = a} {b = b} {g = g} {e = e} {f = e'} h h' h'') =
        let u = expr_is h in let w = expr_is h' in let v = expr_is h'' in
        expr_at (Tree-F.If c a b) (tree.rolls-If _ _ _) (record {
          value = λ j. expr.If (u.value j) ((ap ((reading m ks a).expr scope) u.next ∙ w.value) j)
              ((ap (λ z. (reading m ks b).expr scope (z + (reading m ks a).binds)) u.next ∙ ap ((reading m ks b).expr scope) w.next ∙ v.value) j);
          next = add_three _ _ _ _ _ _ _ u.next w.next v.next;
          passes = λ z l. join_three (Passes m ks) _ _ _ (u.passes false (l + 1)) (w.passes z (l + 1)) (v.passes z (l + 1));
          deep = λ f z l. above l _ (max (expanded_depth f g) (max (expanded_depth f e) (expanded_depth f e')))
              (two_below f _ _ _ _ _ (one_below _ _ _ (u.deep f false (l + 1)))
              (two_below f _ _ _ _ _ (one_below _ _ _ (w.deep f z (l + 1))) (one_below _ _ _ (v.deep f z (l + 1))))) (some_of _ _ (u.some f))
              ∙ ap (λ z. l + z) (sym (expr_layer f (Expr-F.If g e e') (expr.rolls-If _ _ _)));
          some = λ f. some_more (expanded_depth f (expr.If g e e')) (max (expanded_depth f g) (max (expanded_depth f e) (expanded_depth f e')))
              (expr_layer f (Expr-F.If g e e') (expr.rolls-If _ _ _));
        })
    expr_is (t.display {items = items} {es = es} g) =
        let w = exprs_are g in
        expr_at (Tree-F.Display items) (tree.rolls-Display _) (form_is (λ f. greatest (map (expanded_depth f) es)) (ap expr.Display w.value) w.next (λ b l. w.passes false (l + 1))
        (λ f b l. w.deep f false (l + 1)) (λ f. expr_layer f (Expr-F.Display es) (expr.rolls-Display _)))
    expr_is {scope} (t.range {a = a} {b = b} {e = e} {f = g} h h') =
        let w = expr_is h in let v = expr_is h' in
        expr_at (Tree-F.Range a b) (tree.rolls-Range _ _) (form_is (λ f. max (expanded_depth f e) (expanded_depth f g))
        (λ j. expr.Range (w.value j) ((ap ((reading m ks b).expr scope) w.next ∙ v.value) j)) (add_next _ _ _ _ _ w.next v.next)
        (λ c l. join (Passes m ks) _ _ (w.passes false (l + 1)) (v.passes false (l + 1)))
        (λ f c l. two_below f _ _ _ _ _ (one_below _ _ _ (w.deep f false (l + 1))) (one_below _ _ _ (v.deep f false (l + 1))))
        (λ f. expr_layer f (Expr-F.Range e g) (expr.rolls-Range _ _)))
    expr_is {scope} {n} (t.comprehension {inner = inner} {i = i} {items = items} {gens = gens} {es = es} {gs = gs} h h') =
        let w = exprs_are h in let v = gens_are h' in
        expr_at (Tree-F.Comp items gens) (tree.rolls-Comp _ _) (form_is (λ f. max (greatest (map (expanded_depth f) es)) (greatest (map (gen_expanded_depth f) gs)))
        (λ j. expr.Comp
        ((ap (λ z. exprs (map (reading m ks) items) z n) (ap (under (map (of_gen (reads m ks)) gens) scope) w.next ∙ v.after) ∙ w.value) j)
        ((ap (bindings (map (of_gen (reads m ks)) gens) scope) w.next ∙ v.value) j)) (add_next _ _ _ _ _ w.next v.next)
        (λ b l. join (Passes m ks) _ _ (subst (λ z. AllPass m ks (all_say (map (tree_says m) items) (data_at false (l + 1)) z)) (names_after gens scope i v.after) (w.passes false (l + 1)))
        (v.passes (data_at b l)))
        (λ f b l. two_below f _ _ _ _ _
        (subst (λ z. max (l + 1) (deepest f (all_say (map (tree_says m) items) (data_at false (l + 1 + 1)) z)) ≡ (l + 1) + greatest (map (expanded_depth f) es))
        (names_after gens scope i v.after) (w.deep f false (l + 1))) (v.deep f (data_at b (l + 1))))
        (λ f. expr_layer f (Expr-F.Comp es gs) (expr.rolls-Comp _ _)))
    expr_is {scope} {n} (t.product {inner = inner} {i = i} {parts = ps} {gens = gens} {fronts = fs} {gs = gs} h h') =
        let w = fronts_are h in let v = gens_are h' in
        expr_at (Tree-F.Product ps gens) (tree.rolls-Product _ _) (form_is (λ f. max (greatest (map (part_expanded_depth f) fs)) (greatest (map (gen_expanded_depth f) gs)))
        (λ j. expr.Product
        ((ap (λ z. parts m ks (map (of_part (reads m ks)) ps) z n) (ap (under (map (of_gen (reads m ks)) gens) scope) w.next ∙ v.after) ∙ w.value) j)
        ((ap (bindings (map (of_gen (reads m ks)) gens) scope) w.next ∙ v.value) j)) (add_next _ _ _ _ _ w.next v.next)
        (λ b l. join (Passes m ks) _ _
        (subst (λ z. AllPass m ks (all_say (map (part_says m) (map (of_part (saying m ks)) ps)) (data_at b l) z)) (names_after gens scope i v.after) (w.passes (data_at b l)))
        (v.passes (data_at b l)))
        (λ f b l. two_below f _ _ _ _ _
        (subst (λ z. max (l + 1) (deepest f (all_say (map (part_says m) (map (of_part (saying m ks)) ps)) (data_at b (l + 1)) z))
        ≡ (l + 1) + greatest (map (part_expanded_depth f) fs)) (names_after gens scope i v.after) (w.deep f (data_at b (l + 1)))) (v.deep f (data_at b (l + 1))))
        (λ f. expr_layer f (Expr-F.Product fs gs) (expr.rolls-Product _ _)))
    expr_is {scope} (t.set_operator {op = op} {a = a} {b = b} {e = e} {f = g} h h') =
        let w = expr_is h in let v = expr_is h' in
        expr_at (Tree-F.SetOp op a b) (tree.rolls-SetOp _ _ _) (form_is (λ f. max (expanded_depth f e) (expanded_depth f g))
        (λ j. expr.SetOp op (w.value j) ((ap ((reading m ks b).expr scope) w.next ∙ v.value) j)) (add_next _ _ _ _ _ w.next v.next)
        (λ c l. join (Passes m ks) _ _ (w.passes false (l + 1)) (v.passes false (l + 1)))
        (λ f c l. two_below f _ _ _ _ _ (one_below _ _ _ (w.deep f false (l + 1))) (one_below _ _ _ (v.deep f false (l + 1))))
        (λ f. expr_layer f (Expr-F.SetOp op e g) (expr.rolls-SetOp _ _ _)))

    pub exprs_are : {scope : Scope} {n k : ℕ} {ts : List Tree} {es : List Expr} → AreExprs m ks scope n ts es k
        → ExprsAre (map (tree_says m) ts) (map (reading m ks) ts) scope n es k
    exprs_are {scope} {n} t.no_exprs = record { value = refl; next = none_next n; passes = λ b l. tt; deep = λ f b l. none_below l }
    exprs_are {scope} {n} {k} (t.more_exprs {t = a} {e = e} {ts = ts} {es = es} h h') =
        let w = expr_is h in let v = exprs_are h' in
        record {
          value = λ j. w.value j ∷ (ap (exprs (map (reading m ks) ts) scope) w.next ∙ v.value) j;
          next = add_next _ _ _ _ _ w.next v.next;
          passes = λ b l. join (Passes m ks) _ _ (w.passes b l) (v.passes b l);
          deep = λ f b l. two_below f _ _ _ _ _ (one_below _ _ _ (w.deep f b l)) (v.deep f b l);
        }

    pub gens_are : {scope inner : Scope} {n k : ℕ} {ts : List GenTree} {gs : List Gen} → AreGens m ks scope n ts gs inner k
        → GensAre (map (of_gen (saying m ks)) ts) (map (of_gen (reads m ks)) ts) scope n gs inner k
    gens_are {scope} {inner} {n} t.no_gens =
        record { value = refl; after = refl; next = none_next n; passes = λ place. tt; deep = λ f place. none_below place.level }
    gens_are {scope} {inner} {n} {k} (t.from {i = i} {x = x} {s = a} {e = e} {gens = ts} {gs = gs} free h h') =
        let w = expr_is h in let v = gens_are h' in
        at_gen m ks (λ _ b g. GensAre (b ∷ map (of_gen (saying m ks)) ts) (g ∷ map (of_gen (reads m ks)) ts) scope n (gen_of.From n e ∷ gs) inner k)
        (GenTree-F.From x a) (generator.rolls-From _ _) (record {
          value = λ j. ap (gen_of.From n) w.value j ∷ (ap (bindings (map (of_gen (reads m ks)) ts) (with scope x n)) (one_next _ _ _ w.next) ∙ v.value) j;
          after = ap (under (map (of_gen (reads m ks)) ts) (with scope x n)) (one_next _ _ _ w.next) ∙ v.after;
          next = add_next _ _ _ _ _ (one_next _ _ _ w.next) v.next;
          passes = λ place. (
            bind_passes m ks x free,
            join (Passes m ks) _ _ (w.passes false (place.level + 1))
                (subst (λ z. AllPass m ks (in_turn (map (of_gen (saying m ks)) ts) place z)) (names_with scope x n) (v.passes place)),
          );
          deep = λ f place. two_below f place.level (Binds x false ∷ tree_says m a (data_at false (place.level + 1)) (names_of scope)) _ _ _
              (one_below _ _ _ (zero_or _ ∙ w.deep f false place.level ∙ ap (λ z. place.level + z) (sym (gen_layer f (Gen-F.From n e) (gen_of.rolls-From _ _)))))
              (subst (λ z. max place.level (deepest f (in_turn (map (of_gen (saying m ks)) ts) place z)) ≡ place.level + greatest (map (gen_expanded_depth f) gs))
              (names_with scope x n) (v.deep f place));
        })
    gens_are {scope} {inner} {n} {k} (t.condition {i = i} {c = c} {e = e} {gens = ts} {gs = gs} h h') =
        let w = expr_is h in let v = gens_are h' in
        at_gen m ks (λ _ b g. GensAre (b ∷ map (of_gen (saying m ks)) ts) (g ∷ map (of_gen (reads m ks)) ts) scope n (gen_of.Cond e ∷ gs) inner k)
        (GenTree-F.Cond c) (generator.rolls-Cond _) (record {
          value = λ j. ap gen_of.Cond w.value j ∷ (ap (bindings (map (of_gen (reads m ks)) ts) scope) w.next ∙ v.value) j;
          after = ap (under (map (of_gen (reads m ks)) ts) scope) w.next ∙ v.after;
          next = add_next _ _ _ _ _ w.next v.next;
          passes = λ place. join (Passes m ks) _ _ (w.passes false (place.level + 1))
              (subst (λ z. AllPass m ks (in_turn (map (of_gen (saying m ks)) ts) place z)) (sym (append-nil (names_of scope))) (v.passes place));
          deep = λ f place. two_below f place.level (tree_says m c (data_at false (place.level + 1)) (names_of scope)) _ _ _
              (one_below _ _ _ (w.deep f false place.level ∙ ap (λ z. place.level + z) (sym (gen_layer f (Gen-F.Cond e) (gen_of.rolls-Cond _)))))
              (subst (λ z. max place.level (deepest f (in_turn (map (of_gen (saying m ks)) ts) place z)) ≡ place.level + greatest (map (gen_expanded_depth f) gs))
              (sym (append-nil (names_of scope))) (v.deep f place));
        })

    pub front_is : {scope : Scope} {n left k : ℕ} {a : PartTree} {e : EventPart} → IsFront m ks scope n a e left k
        → FrontIs (of_part (saying m ks) a) (of_part (reads m ks) a) scope n e left k
    front_is {scope} {n} {left} {k} (t.front {c = c} {fields = fields} {x = x} {items = items} {es = es} h count g) =
        let w = exprs_are g in
        at_part m ks (λ s r. FrontIs s r scope n (event_part c es) left k) x items (record {
          value = λ j. event_part (ap channel_number h.1 j) (w.value j);
          next = w.next;
          channel = c;
          fields = fields;
          means = means_is m ks scope x (Entity.Channel c fields) h;
          count = ap (λ z. z + left) (length-map items (tree_says m)) ∙ count;
          passes = λ place. (
            use_passes m ks x _ _ _ (means_is m ks scope x (Entity.Channel c fields) h)
                (begins_passes x c fields (length (map (tree_says m) items)) left (ap (λ z. z + left) (length-map items (tree_says m)) ∙ count)),
            w.passes false (place.level + 1),
          );
          deep = λ f place. ap (max place.level) (zero_or _) ∙ w.deep f false place.level ∙ ap (λ z. place.level + z) (sym (part_layer f c es));
        })

    pub fronts_are : {scope : Scope} {n k : ℕ} {ts : List PartTree} {es : List EventPart} → AreFronts m ks scope n ts es k
        → FrontsAre (map (of_part (saying m ks)) ts) (map (of_part (reads m ks)) ts) scope n es k
    fronts_are {scope} {n} t.no_fronts = record { value = refl; next = none_next n; passes = λ place. tt; deep = λ f place. none_below place.level }
    fronts_are {scope} {n} {k} (t.more_fronts {t = a} {f = e} {ts = ts} {fs = es} h h') =
        let w = front_is h in let v = fronts_are h' in
        record {
          value = λ j. w.value j ∷ (ap (parts m ks (map (of_part (reads m ks)) ts) scope) w.next ∙ v.value) j;
          next = add_next _ _ _ _ _ w.next v.next;
          passes = λ place. join (Passes m ks) (part_says m (of_part (saying m ks) a) place (names_of scope)) _ (w.passes place) (v.passes place);
          deep = λ f place. two_below f place.level (part_says m (of_part (saying m ks) a) place (names_of scope)) _ _ _ (w.deep f place) (v.deep f place);
        }
