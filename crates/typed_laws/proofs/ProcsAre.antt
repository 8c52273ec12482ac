-- Where a tree is a process by the rules of typing, it is read as that process and passes.
use Rattle.typed_laws.proofs.Sources.{◌≡◌, roll-Tree, ℕ, zero, suc, ◌+◌, ◌-◌, Bool, true, false, not, ◌||◌, nat_eq, nat_lt, Some, None, List, [], ◌∷◌, length, map, refl, sym, ◌∙◌, ap, subst, append-nil, arith, eq-eqb, data_in, is_network, kind_network, when, Meanings, Name, Binder, Fields, Said, all_say, in_turn, pair_says, part_says, tree_says, tree_says_of_layer, Scope, names_of, with, Binding, Front, Reading, all_bind, bindings, bindings_bind, definition_number, channel_number, head_of, pairs, pairs_bind, part, procs, reading, reading_of_layer, under, AreFields, ArePairs, AreProcs, IsProc, event_tree, EventPart, Expr, Field, FieldTree, FieldTree-F, Form, Kind, PartTree, Place, Proc, Sense, Tree, Tree-F, Uses, Head, Class, Entity, Use, length-map}
use Rattle.csp_text.specs.declared.tree.FieldTree.TheVariants as text
use Rattle.csp_text.specs.declared.tree.Tree.TheVariants as tree
use Rattle.csp_program.specs.declared.processes.Proc.TheVariants as proc
use Rattle.script_names.specs.Typed.{put}
use Rattle.script_names.specs.Says as says
use Rattle.script_names.specs.Typing as t
use Rattle.typed_laws.proofs.Trees.{TreeLayer, at_event, at_field, at_tree, of_field, of_gen, of_part, reads, saying, tree_layer}
use Rattle.typed_laws.proofs.ExprsAre.{ExprIs, add_next, add_three, expr_is, exprs_are, front_is, gens_are, names_after, none_next, one_next, some_left}
use Rattle.typed_laws.proofs.Passing.{AllPass, Passes, form_passes, join, join_three, process_at, use_passes}
use Rattle.typed_laws.proofs.ScopeNames.{add_names, field_names, names_with}
use Rattle.typed_laws.proofs.Senses.{bind_passes, bound_is, call_passes, definition_passes, means_is, none_of_count}

add_one_two : (n a b i k : ℕ) → (n + 1) + a ≡ i → i + b ≡ k → n + (1 + a + b) ≡ k
add_one_two n a b i k h g = omega arith

same_left : (a left n b n' : ℕ) → a + left ≡ n → b + left ≡ n' → n - a ≡ n' - b
same_left a left n b n' h g = omega arith

none_of_three : (a b c : Bool) → a ≡ false → b ≡ false → c ≡ true → (a || (b || not c)) ≡ false
none_of_three false false true h g k = refl
none_of_three _ _ _ h g k = absurd (cc)

module _ (m : Meanings) (ks : List Kind) where
  pub record ProcIs (s : Said) (r : Reading) (scope : Scope) (n : ℕ) (q : Proc) (k : ℕ) : Type 0 where
    pub value : r.proc scope n ≡ q
    pub next : n + r.binds ≡ k
    pub leaf : r.networked scope ≡ false
    pub passes : (b : Bool) (l : ℕ) → AllPass m ks (s (process_at b l) (names_of scope))

  pub record ProcsAre (ss : List Said) (rs : List Reading) (scope : Scope) (n : ℕ) (qs : List Proc) (k : ℕ) : Type 0 where
    pub value : procs rs scope n ≡ qs
    pub next : n + all_bind rs ≡ k
    pub passes : (b : Bool) (l : ℕ) → AllPass m ks (all_say ss (process_at b l) (names_of scope))

  pub record FieldsAre (bs : List Binder) (gs : List (Binding Field)) (scope : Scope) (n : ℕ) (fs : List Field) (inner : Scope) (k : ℕ) : Type 0 where
    pub value : bindings gs scope n ≡ fs
    pub after : under gs scope n ≡ inner
    pub next : n + bindings_bind gs ≡ k
    pub passes : (place : Place) → AllPass m ks (in_turn bs place (names_of scope))

  pub record PairsAre (ss : List (Fields Said × Fields Said)) (rs : List (Front Reading × Front Reading)) (scope : Scope) (n : ℕ)
      (fs : List (EventPart × EventPart)) (k : ℕ) : Type 0 where
    pub value : pairs m ks rs scope n ≡ fs
    pub next : n + pairs_bind rs ≡ k
    pub passes : (place : Place) → AllPass m ks (all_say (map (pair_says m) ss) place (names_of scope))

  renamed_passes : (x : Name) (s z : Sense) (c n c' n' k k' left : ℕ) → s ≡ Sense.Declared (Entity.Channel c n)
      → z ≡ Sense.Declared (Entity.Channel c' n') → k + left ≡ n → k' + left ≡ n' → Passes m ks (Uses x s (Use.Renamed k z k'))
  renamed_passes x s z c n c' n' k k' left h h' g g' =
      subst (λ y. Passes m ks (Uses x y (Use.Renamed k z k'))) (sym h) (subst (λ y. Passes m ks (Uses x (Sense.Declared (Entity.Channel c n)) (Use.Renamed k y k'))) (sym h')
      (record {
        known = refl;
        kind = refl;
        count = ap (λ b. when b x) (none_of_three (nat_lt n k) (nat_lt n' k') (nat_eq (n - k) (n' - k')) (some_left k left n g) (some_left k' left n' g')
            (eq-eqb (n - k) (n' - k') (same_left k left n k' n' g g')));
        inside = refl;
        once = refl;
      }))

  head_passes : (x : Name) (c n k : ℕ) → k ≡ n → Passes m ks (Uses x (Sense.Declared (Entity.Channel c n)) (Use.Heads k))
  head_passes x c n zero same = record { known = refl; once = refl; kind = refl; count = none_of_count n zero x same; inside = refl }
  head_passes x c n (suc k) same = record { known = refl; once = refl; kind = refl; count = none_of_count n (suc k) x same; inside = refl }

  bound_head_passes : (x : Name) → Passes m ks (Uses x Sense.Bound (Use.Heads 0))
  bound_head_passes x = record { known = refl; once = refl; kind = refl; count = refl; inside = refl }

  -- what the layer has that a tree is rolled of
  proc_at : (d : TreeLayer) {a : Tree} → roll-Tree d ≡ a → {scope : Scope} {n : ℕ} {q : Proc} {k : ℕ}
      → ProcIs (tree_layer (saying m ks) d) (tree_layer (reads m ks) d) scope n q k → ProcIs (tree_says m a) (reading m ks a) scope n q k
  proc_at d is {scope} {n} {q} {k} h = at_tree m ks (λ _ s r. ProcIs s r scope n q k) d is h

  -- a Form above parts
  form_is : {rest : Said} {r : Reading} {scope : Scope} {n : ℕ} {q : Proc} {k : ℕ} → r.proc scope n ≡ q → n + r.binds ≡ k → r.networked scope ≡ false
      → ((b : Bool) (l : ℕ) → AllPass m ks (rest (process_at b l) (names_of scope)))
      → ProcIs (λ place names. Form Class.Process place ∷ rest place names) r scope n q k
  form_is value next leaf passes = record {
    value = value;
    next = next;
    leaf = leaf;
    passes = λ b l. (form_passes m ks Class.Process (process_at b l) refl, passes b l);
  }

  -- what fields add to a scope is what they say that they bind
  names_after_fields : (ts : List FieldTree) (scope : Scope) (n : ℕ) {inner : Scope} → under (map (of_field (reads m ks)) ts) scope n ≡ inner
      → names_of inner ≡ says.under (map (of_field (saying m ks)) ts) (names_of scope)
  names_after_fields ts scope n h = ap names_of (sym h) ∙ add_names (of_field (saying m ks)) (of_field (reads m ks)) (field_names m ks) ts scope n

  -- a field that puts a value, in front of others
  put_is : {s : Said} {r : Reading} {scope inner : Scope} {n i k : ℕ} {e : Expr} {fs : List Field} (ts : List FieldTree) → ExprIs m ks s r scope n e i
      → FieldsAre (map (of_field (saying m ks)) ts) (map (of_field (reads m ks)) ts) scope i fs inner k
      → FieldsAre (record { names = []; says = λ place names. s (data_in place) names } ∷ map (of_field (saying m ks)) ts)
      (put m ks r ∷ map (of_field (reads m ks)) ts) scope n (Field.Put e ∷ fs) inner k
  put_is {scope = scope} ts w v = record {
    value = λ j. ap Field.Put w.value j ∷ (ap (bindings (map (of_field (reads m ks)) ts) scope) w.next ∙ v.value) j;
    after = ap (under (map (of_field (reads m ks)) ts) scope) w.next ∙ v.after;
    next = add_next _ _ _ _ _ w.next v.next;
    passes = λ place. join (Passes m ks) _ _ (w.passes false (place.level + 1))
        (subst (λ z. AllPass m ks (in_turn (map (of_field (saying m ks)) ts) place z)) (sym (append-nil (names_of scope))) (v.passes place));
  }

  pub fields_are : {scope inner : Scope} {n k : ℕ} {ts : List FieldTree} {fs : List Field} → AreFields m ks scope n ts fs inner k
      → FieldsAre (map (of_field (saying m ks)) ts) (map (of_field (reads m ks)) ts) scope n fs inner k
  fields_are {scope} {inner} {n} t.no_fields = record { value = refl; after = refl; next = none_next n; passes = λ place. tt }
  fields_are {scope} {inner} {n} {k} (t.dot {a = a} {e = e} {ts = ts} {fs = fs} h h') =
      at_field m ks (λ _ b g. FieldsAre (b ∷ map (of_field (saying m ks)) ts) (g ∷ map (of_field (reads m ks)) ts) scope n (Field.Put e ∷ fs) inner k)
      (FieldTree-F.«FieldTree::Dot» a) (text.rolls-Dot _) (put_is ts (expr_is m ks h) (fields_are h'))
  fields_are {scope} {inner} {n} {k} (t.output {a = a} {e = e} {ts = ts} {fs = fs} h h') =
      at_field m ks (λ _ b g. FieldsAre (b ∷ map (of_field (saying m ks)) ts) (g ∷ map (of_field (reads m ks)) ts) scope n (Field.Put e ∷ fs) inner k)
      (FieldTree-F.Output a) (text.rolls-Output _) (put_is ts (expr_is m ks h) (fields_are h'))
  fields_are {scope} {inner} {n} {k} (t.input {x = x} {ts = ts} {fs = fs} free h') =
      let v = fields_are h' in
      at_field m ks (λ _ b g. FieldsAre (b ∷ map (of_field (saying m ks)) ts) (g ∷ map (of_field (reads m ks)) ts) scope n (Field.Get n None ∷ fs) inner k)
      (FieldTree-F.Input x None) (text.rolls-Input _ _) (record {
        value = λ j. Field.Get n None ∷ v.value j;
        after = v.after;
        next = add_next _ _ _ _ _ refl v.next;
        passes = λ place. (
          bind_passes m ks x free,
          subst (λ z. AllPass m ks (in_turn (map (of_field (saying m ks)) ts) place z)) (names_with scope x n) (v.passes place),
        );
      })
  fields_are {scope} {inner} {n} {k} (t.input_from {x = x} {s = a} {e = e} {ts = ts} {fs = fs} free h h') =
      let w = expr_is m ks h in let v = fields_are h' in
      at_field m ks (λ _ b g. FieldsAre (b ∷ map (of_field (saying m ks)) ts) (g ∷ map (of_field (reads m ks)) ts) scope n (Field.Get n (Some e) ∷ fs) inner k)
      (FieldTree-F.Input x (Some a)) (text.rolls-Input _ _) (record {
        value = λ j. ap (λ z. Field.Get n (Some z)) w.value j ∷ (ap (bindings (map (of_field (reads m ks)) ts) (with scope x n)) (one_next _ _ _ w.next) ∙ v.value) j;
        after = ap (under (map (of_field (reads m ks)) ts) (with scope x n)) (one_next _ _ _ w.next) ∙ v.after;
        next = add_next _ _ _ _ _ (one_next _ _ _ w.next) v.next;
        passes = λ place. (
          bind_passes m ks x free,
          join (Passes m ks) _ _ (w.passes false (place.level + 1))
              (subst (λ z. AllPass m ks (in_turn (map (of_field (saying m ks)) ts) place z)) (names_with scope x n) (v.passes place)),
        );
      })

  pub pairs_are : {scope : Scope} {n k : ℕ} {ts : List (PartTree × PartTree)} {fs : List (EventPart × EventPart)} → ArePairs m ks scope n ts fs k
      → PairsAre (map (λ p. (of_part (saying m ks) p.0, of_part (saying m ks) p.1)) ts) (map (λ p. (of_part (reads m ks) p.0, of_part (reads m ks) p.1)) ts) scope n fs k
  pairs_are {scope} {n} t.no_pairs = record { value = refl; next = none_next n; passes = λ place. tt }
  pairs_are {scope} {n} {k} (t.more_pairs {left = left} {old = a} {new = b} {f = f} {g = g} {ts = ts} {fs = fs} h h' h'') =
      let u = front_is m ks h in let w = front_is m ks h' in let v = pairs_are h'' in
      let rest = map (λ (p : PartTree × PartTree). (of_part (reads m ks) p.0, of_part (reads m ks) p.1)) ts in
      record {
        value = λ j. (u.value j, (ap (part m ks (of_part (reads m ks) b) scope) u.next ∙ w.value) j)
            ∷ (ap (λ z. pairs m ks rest scope (z + all_bind (of_part (reads m ks) b).fields)) u.next ∙ ap (pairs m ks rest scope) w.next ∙ v.value) j;
        next = add_three _ _ _ _ _ _ _ u.next w.next v.next;
        passes = λ place. join (Passes m ks) (pair_says m (of_part (saying m ks) a, of_part (saying m ks) b) place (names_of scope)) _ (
          renamed_passes (of_part (saying m ks) a).name _ _ u.channel u.fields w.channel w.fields (length (of_part (saying m ks) a).fields)
              (length (of_part (saying m ks) b).fields) left u.means w.means u.count w.count,
          join (Passes m ks) (part_says m (of_part (saying m ks) a) place (names_of scope)) (part_says m (of_part (saying m ks) b) place (names_of scope))
              (u.passes place) (w.passes place),
        ) (v.passes place);
      }

  mutual
    pub proc_is : {scope : Scope} {n k : ℕ} {a : Tree} {q : Proc} → IsProc m ks scope n a q k → ProcIs (tree_says m a) (reading m ks a) scope n q k
    proc_is {scope} {n} t.stop = proc_at Tree-F.Stop tree.rolls-Stop (form_is refl (none_next n) refl (λ b l. tt))
    proc_is {scope} {n} t.skip = proc_at Tree-F.Skip tree.rolls-Skip (form_is refl (none_next n) refl (λ b l. tt))
    proc_is {scope} {n} (t.process {d = d} {x = x} h is) =
        proc_at (Tree-F.Name x) (tree.rolls-Name _) (record {
          value = ap (λ e. proc.Call (definition_number e) []) h.1;
          next = none_next n;
          leaf = ap (is_network ks) (means_is m ks scope x (Entity.Definition d 0) h) ∙ ap kind_network is;
          passes = λ b l. (use_passes m ks x _ _ _ (means_is m ks scope x (Entity.Definition d 0) h) (definition_passes m ks x d _ (process_at b l) is refl refl), tt);
        })
    proc_is {scope} (t.process_call {d = d} {f = x} {args = args} {es = es} h is g) =
        let w = exprs_are m ks g in
        proc_at (Tree-F.Call x args) (tree.rolls-Call _ _) (record {
          value = λ i. proc.Call (ap definition_number h.1 i) (w.value i);
          next = w.next;
          leaf = ap (is_network ks) (means_is m ks scope x (Entity.Definition d (length args)) h) ∙ ap kind_network is;
          passes = λ b l. (
            use_passes m ks x _ _ _ (means_is m ks scope x (Entity.Definition d (length args)) h)
                (call_passes m ks x d (length args) (length (map (tree_says m) args)) _ (process_at b l) is refl refl (length-map args (tree_says m))),
            w.passes false (l + 1),
          );
        })
    proc_is {scope} (t.proc_if {c = c} {p = a} {q = b} {e = e} {r = p} {s = q} h h' h'') =
        let u = expr_is m ks h in let w = proc_is h' in let v = proc_is h'' in
        proc_at (Tree-F.If c a b) (tree.rolls-If _ _ _) (record {
          value = λ j. proc.If (u.value j) ((ap ((reading m ks a).proc scope) u.next ∙ w.value) j)
              ((ap (λ z. (reading m ks b).proc scope (z + (reading m ks a).binds)) u.next ∙ ap ((reading m ks b).proc scope) w.next ∙ v.value) j);
          next = add_three _ _ _ _ _ _ _ u.next w.next v.next;
          leaf = λ j. w.leaf j || v.leaf j;
          passes = λ z l. join_three (Passes m ks) _ _ _ (u.passes false (l + 1)) (w.passes z (l + 1)) (v.passes z (l + 1));
        })
    proc_is {scope} {n} {k} (t.prefix {c = c} {x = x} {ts = ts} {fs = fs} {p = a} {q = q} h g h') =
        let w = fields_are g in let v = proc_is h' in
        proc_at (Tree-F.Prefix (event_tree x ts) a) (tree.rolls-Prefix _ _)
        (at_event m ks (λ b f. ProcIs (tree_says_of_layer m (Tree-F.Prefix b (tree_says m a))) (reading_of_layer m ks (Tree-F.Prefix f (reading m ks a)))
        scope n (proc.Prefix (Head.Channel c) fs q) k) x ts
        (form_is (λ j. proc.Prefix ((ap (λ o. head_of o (m x)) h.0 ∙ ap (λ e. Head.Channel (channel_number e)) h.1) j) (w.value j)
        ((ap (λ z. (reading m ks a).proc z (n + bindings_bind (map (of_field (reads m ks)) ts))) w.after ∙ ap ((reading m ks a).proc _) w.next ∙ v.value) j))
        (add_next _ _ _ _ _ w.next v.next) refl
        (λ b l. (
          use_passes m ks x _ _ _ (means_is m ks scope x (Entity.Channel c (length ts)) h)
              (head_passes x c (length ts) (length (map (of_field (saying m ks)) ts)) (length-map ts (of_field (saying m ks)))),
          join (Passes m ks) _ _ (w.passes (process_at b l)) (subst (λ z. AllPass m ks (tree_says m a (process_at false (l + 1)) z)) (names_after_fields ts scope n w.after) (v.passes false (l + 1))),
        ))))
    proc_is {scope} {n} {k} (t.bound_prefix {b = b} {x = x} {p = a} {q = q} h h') =
        let v = proc_is h' in
        proc_at (Tree-F.Prefix (event_tree x []) a) (tree.rolls-Prefix _ _)
        (at_event m ks (λ z f. ProcIs (tree_says_of_layer m (Tree-F.Prefix z (tree_says m a))) (reading_of_layer m ks (Tree-F.Prefix f (reading m ks a)))
        scope n (proc.Prefix (Head.Bound b) [] q) k) x []
        (form_is (λ j. proc.Prefix (ap (λ o. head_of o (m x)) h j) [] ((ap ((reading m ks a).proc scope) (none_next n) ∙ v.value) j))
        (add_next _ _ _ _ _ (none_next n) v.next) refl
        (λ z l. (use_passes m ks x _ _ _ (bound_is m ks scope x b h) (bound_head_passes x), v.passes false (l + 1)))))
    proc_is {scope} (t.guard {c = c} {p = a} {e = e} {q = q} h h') =
        let w = expr_is m ks h in let v = proc_is h' in
        proc_at (Tree-F.Guard c a) (tree.rolls-Guard _ _) (form_is (λ j. proc.Guard (w.value j) ((ap ((reading m ks a).proc scope) w.next ∙ v.value) j))
        (add_next _ _ _ _ _ w.next v.next) refl (λ b l. join (Passes m ks) _ _ (w.passes false (l + 1)) (v.passes false (l + 1))))
    proc_is (t.external {ps = ps} {qs = qs} g) =
        let w = procs_are g in
        proc_at (Tree-F.External ps) (tree.rolls-External _) (form_is (ap proc.External w.value) w.next refl (λ b l. w.passes false (l + 1)))
    proc_is (t.internal {ps = ps} {qs = qs} g) =
        let w = procs_are g in
        proc_at (Tree-F.Internal ps) (tree.rolls-Internal _) (form_is (ap proc.Internal w.value) w.next refl (λ b l. w.passes false (l + 1)))
    proc_is {scope} {n} (t.each_external {x = x} {s = a} {p = b} {e = e} {q = q} free h h') =
        let w = expr_is m ks h in let v = proc_is h' in
        proc_at (Tree-F.EachExternal x a b) (tree.rolls-EachExternal _ _ _) (form_is (λ j. proc.EachExternal n (w.value j) ((ap ((reading m ks b).proc (with scope x n)) w.next ∙ v.value) j))
        (add_one_two _ _ _ _ _ w.next v.next) refl (λ z l. (
          bind_passes m ks x free,
          join (Passes m ks) _ _ (w.passes false (l + 1))
              (subst (λ y. AllPass m ks (tree_says m b (process_at false (l + 1)) y)) (names_with scope x n) (v.passes false (l + 1))),
        )))
    proc_is {scope} {n} (t.each_internal {x = x} {s = a} {p = b} {e = e} {q = q} free h h') =
        let w = expr_is m ks h in let v = proc_is h' in
        proc_at (Tree-F.EachInternal x a b) (tree.rolls-EachInternal _ _ _) (form_is (λ j. proc.EachInternal n (w.value j) ((ap ((reading m ks b).proc (with scope x n)) w.next ∙ v.value) j))
        (add_one_two _ _ _ _ _ w.next v.next) refl (λ z l. (
          bind_passes m ks x free,
          join (Passes m ks) _ _ (w.passes false (l + 1))
              (subst (λ y. AllPass m ks (tree_says m b (process_at false (l + 1)) y)) (names_with scope x n) (v.passes false (l + 1))),
        )))
    proc_is {scope} (t.sequence {p = a} {q = b} {r = p} {s = q} h h') =
        let w = proc_is h in let v = proc_is h' in
        proc_at (Tree-F.Seq a b) (tree.rolls-Seq _ _) (form_is (λ j. proc.Seq (w.value j) ((ap ((reading m ks b).proc scope) w.next ∙ v.value) j))
        (add_next _ _ _ _ _ w.next v.next) refl (λ z l. join (Passes m ks) _ _ (w.passes false (l + 1)) (v.passes false (l + 1))))
    proc_is {scope} (t.hide {p = a} {s = b} {q = q} {e = e} h h') =
        let w = proc_is h in let v = expr_is m ks h' in
        proc_at (Tree-F.Hide a b) (tree.rolls-Hide _ _) (form_is (λ j. proc.Hide (w.value j) ((ap ((reading m ks b).expr scope) w.next ∙ v.value) j))
        (add_next _ _ _ _ _ w.next v.next) refl (λ z l. join (Passes m ks) _ _ (w.passes false (l + 1)) (v.passes false (l + 1))))
    proc_is {scope} (t.rename {i = i} {j = j} {p = a} {q = q} {pairs = ps} {fs = fs} {gens = gens} {gs = gs} h g h') =
        let u = proc_is h in let w = pairs_are g in let v = gens_are m ks h' in
        let fronts = map (λ (p : PartTree × PartTree). (of_part (reads m ks) p.0, of_part (reads m ks) p.1)) ps in
        proc_at (Tree-F.Rename a ps gens) (tree.rolls-Rename _ _ _) (form_is
        (λ j. proc.Rename (u.value j)
        ((ap (λ z. pairs m ks fronts (under (map (of_gen (reads m ks)) gens) scope (z + pairs_bind fronts)) z) u.next
        ∙ ap (λ z. pairs m ks fronts z i) (ap (under (map (of_gen (reads m ks)) gens) scope) w.next ∙ v.after) ∙ w.value) j)
        ((ap (λ z. bindings (map (of_gen (reads m ks)) gens) scope (z + pairs_bind fronts)) u.next ∙ ap (bindings (map (of_gen (reads m ks)) gens) scope) w.next ∙ v.value) j))
        (add_three _ _ _ _ _ _ _ u.next w.next v.next) refl
        (λ b l. join_three (Passes m ks) _ _ _ (u.passes false (l + 1))
        (subst (λ z. AllPass m ks (all_say (map (pair_says m) (map (λ (p : PartTree × PartTree). (of_part (saying m ks) p.0, of_part (saying m ks) p.1)) ps)) (process_at b l) z))
        (names_after m ks gens scope j v.after) (w.passes (process_at b l))) (v.passes (process_at b l))))

    pub procs_are : {scope : Scope} {n k : ℕ} {ts : List Tree} {qs : List Proc} → AreProcs m ks scope n ts qs k
        → ProcsAre (map (tree_says m) ts) (map (reading m ks) ts) scope n qs k
    procs_are {scope} {n} t.no_procs = record { value = refl; next = none_next n; passes = λ b l. tt }
    procs_are {scope} {n} {k} (t.more_procs {t = a} {q = q} {ts = ts} {qs = qs} h h') =
        let w = proc_is h in let v = procs_are h' in
        record {
          value = λ j. w.value j ∷ (ap (procs (map (reading m ks) ts) scope) w.next ∙ v.value) j;
          next = add_next _ _ _ _ _ w.next v.next;
          passes = λ b l. join (Passes m ks) _ _ (w.passes b l) (v.passes b l);
        }
