-- A tree that passes is an expression, a process or a network by the rules of typing: the one that it is read as. By induction over trees: `Typable`
-- says this of a tree, `Enters` of a field or a generator in front of typed ones, and `FrontTyped` of the front of an event.
use Rattle.typed_laws.proofs.Sources.{◌≡◌, ℕ, ◌+◌, ◌-◌, ◌≤◌, Bool, true, false, not, ◌&&◌, ◌||◌, Option, Some, None, List, [], ◌∷◌, ◌++◌, length, map, refl, sym, ◌∙◌, ap, subst, arith, if◌then◌else◌, Every, Meanings, Name, clashes, sense_in, Binder, Fields, Said, all_say, in_turn, pair_says, part_says, Scope, names_of, number_of, with, Binding, Front, Reading, all_bind, bindings, bindings_bind, binds_of_layer, channel_number, exprs, head_of, network_of_layer, pairs, pairs_bind, part, parts, parts_bind, proc_of_layer, procs, reading, tree_says, tree_says_of_layer, under, AreExprs, AreFields, AreFronts, AreGens, ArePairs, AreProcs, IsComposition, IsExpr, IsFront, IsNet, IsProc, event_tree, part_tree, EventTree, Expr, Field, FieldTree, FieldTree-F, GenTree, GenTree-F, Kind, Net, PartTree, Place, Proc, Sense, Tree, Tree-F, Uses, ind-Tree, map-FieldTree, map-GenTree, map-Tree, roll-EventTree, roll-FieldTree, roll-GenTree, roll-PartTree, roll-Tree, Class, Entity, Use, length-map}
use Rattle.csp_text.specs.declared.tree.FieldTree.TheVariants as text
use Rattle.csp_text.specs.declared.tree.GenTree.TheVariants as generator
use Rattle.csp_text.specs.declared.tree.Tree.TheVariants as tree
use Rattle.csp_program.specs.declared.networks.Net.TheVariants as net
use Rattle.csp_program.specs.declared.processes.Proc.TheVariants as proc
use Rattle.script_names.specs.Says as says
use Rattle.script_names.specs.Typing as t
use Rattle.typed_laws.proofs.Passing.{AllPass, Passes, data_at, four_parts, three_parts, two_parts, process_at}
use Rattle.typed_laws.proofs.ScopeNames.{AddsNames, NameIs, add_names, field_names, gen_names, is_bound, is_free, name_is, names_with}
use Rattle.typed_laws.proofs.Trees.{TreeLayer, at_event, at_part, field_rolled, gen_rolled, of_field, of_gen, of_part, reads, saying, tree_layer, tree_parts, tree_rolled}
use Rattle.typed_laws.proofs.Uses.{HaveKinds, alone, begins_use, called, data_of, dotted_use, head_entity, may_bind, name_expr, network_of, process_of, same_left}

pub no_end : (n : ℕ) → n ≡ n + 0
no_end n = omega arith

pub two_ends : (n a b : ℕ) → (n + a) + b ≡ n + (a + b)
two_ends n a b = omega arith

three_ends : (n a b c : ℕ) → n + a + b + c ≡ n + (a + b + c)
three_ends n a b c = omega arith

four_ends : (n a b c d : ℕ) → n + a + b + c + d ≡ n + (a + b + c + d)
four_ends n a b c d = omega arith

all_left : (a b n : ℕ) → a ≡ b → a ≤ n → b + (n - a) ≡ n
all_left a b n h g = omega arith

left_false : (b s z : Bool) → (b && (s || z)) ≡ false → (b && s) ≡ false
left_false true true z h = h
left_false true false z h = refl
left_false false s z h = refl

right_false : (b s z : Bool) → (b && (s || z)) ≡ false → (b && z) ≡ false
right_false true true z h = absurd (cc)
right_false true false z h = h
right_false false s z h = refl

no_place : (b s : Bool) → s ≡ true → (b && s) ≡ false → not b ≡ false → ⊥
no_place true true h g k = cc
no_place true false h g k = cc
no_place false s h g k = cc

module _ (m : Meanings) (ks : List Kind) (kinds : HaveKinds m ks) where
  -- a tree is an expression, a process and a composition, at each place that asks for one
  pub record Typable (a : Tree) (s : Said) (r : Reading) : Type 0 where
    pub expr : (scope : Scope) (n : ℕ) (b : Bool) (l : ℕ) → AllPass m ks (s (data_at b l) (names_of scope))
        → IsExpr m ks scope n a (r.expr scope n) (n + r.binds)
    pub proc : (scope : Scope) (n : ℕ) (b : Bool) (l : ℕ) → (b && r.networked scope) ≡ false → AllPass m ks (s (process_at b l) (names_of scope))
        → IsProc m ks scope n a (r.proc scope n) (n + r.binds)
    pub composition : (scope : Scope) (n l : ℕ) → r.networked scope ≡ true → AllPass m ks (s (process_at true l) (names_of scope))
        → IsComposition m ks scope n a (r.net scope n) (n + r.binds)
    pub leaf : (scope : Scope) (n : ℕ) → r.networked scope ≡ false → r.net scope n ≡ net.Leaf (r.proc scope n)

  abbrev pub TreeTyped : Tree → Type 0
  TreeTyped t = Typable t (tree_says m t) (reading m ks t)

  -- a field or a generator stands in front of what is typed under the names that it adds
  abbrev Enters : {T B : Type 0} → (Scope → ℕ → List T → List B → Scope → ℕ → Type 0) → T → Binder → Binding B → Type 0
  Enters {T} {B} Are t b g = (scope : Scope) (n : ℕ) (place : Place) → AllPass m ks (b.says place (names_of scope)) → (ts : List T) (fs : List B) (inner : Scope) (k : ℕ)
      → Are (g.after scope n) (n + g.binds) ts fs inner k → Are scope n (t ∷ ts) (g.here scope n ∷ fs) inner k

  abbrev FieldTyped : FieldTree → Type 0
  FieldTyped t = Enters (AreFields m ks) t (of_field (saying m ks) t) (of_field (reads m ks) t)

  abbrev GenTyped : GenTree → Type 0
  GenTyped t = Enters (AreGens m ks) t (of_gen (saying m ks) t) (of_gen (reads m ks) t)

  -- the event of a prefix is its channel with typed fields
  pub record EventTyped (t : EventTree) : Type 0 where
    pub name : Name
    pub fields : List FieldTree
    pub is : event_tree name fields ≡ t
    pub typed : Every FieldTyped fields

  -- the front of an event, with what its name stands for
  pub record FrontTyped (a : PartTree) (s : Fields Said) (r : Front Reading) (scope : Scope) (n : ℕ) : Type 0 where
    pub channel : ℕ
    pub fields : ℕ
    pub sense_is : sense_in m (names_of scope) s.name ≡ Sense.Declared (Entity.Channel channel fields)
    pub is : IsFront m ks scope n a (part m ks r scope n) (fields - length s.fields) (n + all_bind r.fields)

  abbrev PartTyped : PartTree → Type 0
  PartTyped t = (scope : Scope) (n : ℕ) (place : Place) → AllPass m ks (part_says m (of_part (saying m ks) t) place (names_of scope))
      → FrontTyped t (of_part (saying m ks) t) (of_part (reads m ks) t) scope n

  -- ---- networks

  net_by : (a : Tree) (s : Said) (r : Reading) → Typable a s r → (scope : Scope) (n l : ℕ) (b : Bool) → r.networked scope ≡ b
      → AllPass m ks (s (process_at true l) (names_of scope)) → IsNet m ks scope n a (r.net scope n) (n + r.binds)
  net_by a s r h scope n l true is pass = t.composition (h.composition scope n l is pass)
  net_by a s r h scope n l false is pass =
      subst (λ w. IsNet m ks scope n a w (n + r.binds)) (sym (h.leaf scope n is)) (t.component (h.proc scope n true l is pass))

  pub net_of : {a : Tree} {s : Said} {r : Reading} → Typable a s r → (scope : Scope) (n l : ℕ) → AllPass m ks (s (process_at true l) (names_of scope))
      → IsNet m ks scope n a (r.net scope n) (n + r.binds)
  net_of {a} {s} {r} h scope n l pass = net_by a s r h scope n l (r.networked scope) refl pass

  -- an `if` of which a part is a composition
  if_typed : {ct pt qt : Tree} {c : Expr} {ps qs : Said} {p q : Reading} → Typable pt ps p → Typable qt qs q → (scope : Scope) (n i l : ℕ) (b : Bool)
      → p.networked scope ≡ b → (p.networked scope || q.networked scope) ≡ true → IsExpr m ks scope n ct c i
      → AllPass m ks (ps (process_at true l) (names_of scope)) → AllPass m ks (qs (process_at true l) (names_of scope))
      → IsComposition m ks scope n (tree.If ct pt qt) (net.If c (p.net scope i) (q.net scope (i + p.binds))) (i + p.binds + q.binds)
  if_typed {p = p} {q = q} g k scope n i l true is some h pass pass' = t.if_first h (g.composition scope i l is pass) (net_of k scope (i + p.binds) l pass')
  if_typed {ct} {pt} {qt} {c} {p = p} {q = q} g k scope n i l false is some h pass pass' =
      subst (λ w. IsComposition m ks scope n (tree.If ct pt qt) (net.If c w (q.net scope (i + p.binds))) (i + p.binds + q.binds)) (sym (g.leaf scope i is))
      (t.if_second h (g.proc scope i true l is pass) (k.composition scope (i + p.binds) l (ap (λ z. z || q.networked scope) (sym is) ∙ some) pass'))

  -- ---- lists

  abbrev Known : {A : Type 0} → (A → Type 0) → Type 0
  Known {A} P = (t : A) × P t

  known : {A : Type 0} {P : A → Type 0} (es : List (Known P)) → Every P (map (λ e. e.0) es)
  known [] = tt
  known (e ∷ es) = (e.1, known es)

  pub exprs_typed : (ts : List Tree) → Every TreeTyped ts → (scope : Scope) (n : ℕ) (b : Bool) (l : ℕ)
      → AllPass m ks (all_say (map (tree_says m) ts) (data_at b l) (names_of scope))
      → AreExprs m ks scope n ts (exprs (map (reading m ks) ts) scope n) (n + all_bind (map (reading m ks) ts))
  exprs_typed [] h scope n b l pass = subst (AreExprs m ks scope n [] []) (no_end n) t.no_exprs
  exprs_typed (a ∷ ts) h scope n b l pass =
      let w = two_parts (Passes m ks) _ _ pass in
      subst (AreExprs m ks scope n _ _) (two_ends n _ _) (t.more_exprs (h.0.expr scope n b l w.0) (exprs_typed ts h.1 scope _ b l w.1))

  procs_typed : (ts : List Tree) → Every TreeTyped ts → (scope : Scope) (n l : ℕ)
      → AllPass m ks (all_say (map (tree_says m) ts) (process_at false l) (names_of scope))
      → AreProcs m ks scope n ts (procs (map (reading m ks) ts) scope n) (n + all_bind (map (reading m ks) ts))
  procs_typed [] h scope n l pass = subst (AreProcs m ks scope n [] []) (no_end n) t.no_procs
  procs_typed (a ∷ ts) h scope n l pass =
      let w = two_parts (Passes m ks) _ _ pass in
      subst (AreProcs m ks scope n _ _) (two_ends n _ _) (t.more_procs (h.0.proc scope n false l refl w.0) (procs_typed ts h.1 scope _ l w.1))

  module _ {T B : Type 0} (Are : Scope → ℕ → List T → List B → Scope → ℕ → Type 0) (none : (scope : Scope) (n : ℕ) → Are scope n [] [] scope n)
      (said : T → Binder) (read : T → Binding B) (adds : (t : T) → AddsNames (said t) (read t)) where
    bindings_typed : (ts : List T) → Every (λ t. Enters Are t (said t) (read t)) ts → (scope : Scope) (n : ℕ) (place : Place)
        → AllPass m ks (in_turn (map said ts) place (names_of scope))
        → Are scope n ts (bindings (map read ts) scope n) (under (map read ts) scope n) (n + bindings_bind (map read ts))
    bindings_typed [] h scope n place pass = subst (Are scope n [] [] scope) (no_end n) (none scope n)
    bindings_typed (t ∷ ts) h scope n place pass =
        let w = two_parts (Passes m ks) ((said t).says place (names_of scope)) _ pass in
        let rest = subst (λ z. AllPass m ks (in_turn (map said ts) place z)) (sym (adds t scope n)) w.1 in
        subst (Are scope n _ _ _) (two_ends n _ _) (h.0 scope n place w.0 _ _ _ _ (bindings_typed ts h.1 _ _ place rest))

  abbrev fields_typed : (ts : List FieldTree) → Every FieldTyped ts → (scope : Scope) (n : ℕ) (place : Place)
      → AllPass m ks (in_turn (map (of_field (saying m ks)) ts) place (names_of scope)) → AreFields m ks scope n ts (bindings (map (of_field (reads m ks)) ts) scope n)
      (under (map (of_field (reads m ks)) ts) scope n) (n + bindings_bind (map (of_field (reads m ks)) ts))
  fields_typed = bindings_typed (AreFields m ks) (λ scope n. t.no_fields) (of_field (saying m ks)) (of_field (reads m ks)) (field_names m ks)

  abbrev gens_typed : (ts : List GenTree) → Every GenTyped ts → (scope : Scope) (n : ℕ) (place : Place)
      → AllPass m ks (in_turn (map (of_gen (saying m ks)) ts) place (names_of scope)) → AreGens m ks scope n ts (bindings (map (of_gen (reads m ks)) ts) scope n)
      (under (map (of_gen (reads m ks)) ts) scope n) (n + bindings_bind (map (of_gen (reads m ks)) ts))
  gens_typed = bindings_typed (AreGens m ks) (λ scope n. t.no_gens) (of_gen (saying m ks)) (of_gen (reads m ks)) (gen_names m ks)

  -- what passes under the names that generators say passes under the names that they add
  under_gens : (s : Said) (place : Place) (ts : List GenTree) (scope : Scope) (n : ℕ)
      → AllPass m ks (s place (says.under (map (of_gen (saying m ks)) ts) (names_of scope)))
      → AllPass m ks (s place (names_of (under (map (of_gen (reads m ks)) ts) scope n)))
  under_gens s place ts scope n h =
      subst (λ z. AllPass m ks (s place z)) (sym (add_names (of_gen (saying m ks)) (of_gen (reads m ks)) (gen_names m ks) ts scope n)) h

  -- what passes with one name more passes in the scope with it
  with_one : (s : Said) (place : Place) (scope : Scope) (x : Name) (n : ℕ) → AllPass m ks (s place (names_of scope ++ x ∷ []))
      → AllPass m ks (s place (names_of (with scope x n)))
  with_one s place scope x n h = subst (λ z. AllPass m ks (s place z)) (sym (names_with scope x n)) h

  fronts_typed : (ts : List PartTree) → Every PartTyped ts → (scope : Scope) (n : ℕ) (place : Place)
      → AllPass m ks (all_say (map (part_says m) (map (of_part (saying m ks)) ts)) place (names_of scope))
      → AreFronts m ks scope n ts (parts m ks (map (of_part (reads m ks)) ts) scope n) (n + parts_bind (map (of_part (reads m ks)) ts))
  fronts_typed [] h scope n place pass = subst (AreFronts m ks scope n [] []) (no_end n) t.no_fronts
  fronts_typed (a ∷ ts) h scope n place pass =
      let w = two_parts (Passes m ks) (part_says m (of_part (saying m ks) a) place (names_of scope)) _ pass in
      subst (AreFronts m ks scope n _ _) (two_ends n _ _) (t.more_fronts (h.0 scope n place w.0).is (fronts_typed ts h.1 scope _ place w.1))

  abbrev both_of : {A B : Type 0} → (A → B) → A × A → B × B
  both_of f p = (f p.0, f p.1)

  pairs_typed : (es : List (Known PartTyped × Known PartTyped)) → (scope : Scope) (n : ℕ) (place : Place)
      → AllPass m ks (all_say (map (pair_says m) (map (both_of (of_part (saying m ks))) (map (both_of (λ e. e.0)) es))) place (names_of scope))
      → ArePairs m ks scope n (map (both_of (λ e. e.0)) es) (pairs m ks (map (both_of (of_part (reads m ks))) (map (both_of (λ e. e.0)) es)) scope n)
      (n + pairs_bind (map (both_of (of_part (reads m ks))) (map (both_of (λ e. e.0)) es)))
  pairs_typed [] scope n place pass = subst (ArePairs m ks scope n [] []) (no_end n) t.no_pairs
  pairs_typed (e ∷ es) scope n place pass =
      let s = of_part (saying m ks) e.0.0 in
      let s' = of_part (saying m ks) e.1.0 in
      let w = two_parts (Passes m ks) (pair_says m (s, s') place (names_of scope)) _ pass in
      let v = two_parts (Passes m ks) (part_says m s place (names_of scope)) (part_says m s' place (names_of scope)) w.0.1 in
      let one = e.0.1 scope n place v.0 in
      let other = e.1.1 scope (n + all_bind (of_part (reads m ks) e.0.0).fields) place v.1 in
      subst (ArePairs m ks scope n _ _) (three_ends n _ _ _)
      (t.more_pairs
      (subst (λ left. IsFront m ks scope n e.0.0 (part m ks (of_part (reads m ks) e.0.0) scope n) left (n + all_bind (of_part (reads m ks) e.0.0).fields))
      (same_left m ks s.name _ _ one.channel one.fields other.channel other.fields (length s.fields) (length s'.fields) one.sense_is other.sense_is w.0.0)
      one.is) other.is (pairs_typed es scope _ place w.1))

  -- ---- forms

  -- a tree that is rolled of a layer, from what it is at each place
  module _ (d : TreeLayer) {a : Tree} (is : roll-Tree d ≡ a) where
    abbrev s : Said
    s = tree_layer (saying m ks) d

    abbrev r : Reading
    r = tree_layer (reads m ks) d

    abbrev joined : (scope : Scope) (n : ℕ) (b : Bool) → Net
    joined scope n b = if b then network_of_layer m ks (tree_parts (reads m ks) d) scope n else net.Leaf (r.proc scope n)

    form : ((scope : Scope) (n : ℕ) (b : Bool) (l : ℕ) → AllPass m ks (s (data_at b l) (names_of scope)) → IsExpr m ks scope n a (r.expr scope n) (n + r.binds))
        → ((scope : Scope) (n : ℕ) (b : Bool) (l : ℕ) → (b && r.networked scope) ≡ false → AllPass m ks (s (process_at b l) (names_of scope))
        → IsProc m ks scope n a (r.proc scope n) (n + r.binds))
        → ((scope : Scope) (n l : ℕ) → r.networked scope ≡ true → AllPass m ks (s (process_at true l) (names_of scope))
        → IsComposition m ks scope n a (joined scope n true) (n + r.binds)) → TreeTyped (roll-Tree d)
    form e p w = tree_rolled m ks Typable d is (record {
      expr = e;
      proc = p;
      composition = λ scope n l some pass.
          subst (λ v. IsComposition m ks scope n a v (n + r.binds)) (sym (ap (joined scope n) some)) (w scope n l some pass);
      leaf = λ scope n none. ap (joined scope n) none;
    })

    data_form : ((place : Place) (names : List Name) → AllPass m ks (s place names) → clashes Class.Data place.need ≡ false)
        → ((scope : Scope) (n : ℕ) (b : Bool) (l : ℕ) → AllPass m ks (s (data_at b l) (names_of scope)) → IsExpr m ks scope n a (r.expr scope n) (n + r.binds))
        → TreeTyped (roll-Tree d)
    data_form fits e =
        form e (λ scope n b l free pass. absurd (let g : true ≡ false = fits (process_at b l) (names_of scope) pass in cc))
        (λ scope n l some pass. absurd (let g : true ≡ false = fits (process_at true l) (names_of scope) pass in cc))

    process_form : ((place : Place) (names : List Name) → AllPass m ks (s place names) → clashes Class.Process place.need ≡ false)
        → ((scope : Scope) → r.networked scope ≡ false)
        → ((scope : Scope) (n : ℕ) (b : Bool) (l : ℕ) → AllPass m ks (s (process_at b l) (names_of scope)) → IsProc m ks scope n a (r.proc scope n) (n + r.binds))
        → TreeTyped (roll-Tree d)
    process_form fits single p =
        form (λ scope n b l pass. absurd (let g : true ≡ false = fits (data_at b l) (names_of scope) pass in cc)) (λ scope n b l free pass. p scope n b l pass)
        (λ scope n l some pass. absurd (let g = single scope in cc))

    network_form : ((place : Place) (names : List Name) → AllPass m ks (s place names) → (clashes Class.Process place.need ≡ false) × (not place.network ≡ false))
        → ((scope : Scope) → r.networked scope ≡ true)
        → ((scope : Scope) (n l : ℕ) → AllPass m ks (s (process_at true l) (names_of scope)) → IsComposition m ks scope n a (joined scope n true) (n + r.binds))
        → TreeTyped (roll-Tree d)
    network_form fits some w =
        form (λ scope n b l pass. absurd (let g : true ≡ false = (fits (data_at b l) (names_of scope) pass).0 in cc))
        (λ scope n b l free pass. absurd (no_place b (r.networked scope) (some scope) free (fits (process_at b l) (names_of scope) pass).1))
        (λ scope n l is_some pass. w scope n l pass)

  -- a prefix with its head
  prefix_typed : (x : Name) (ts : List FieldTree) (scope : Scope) (n : ℕ) {o : Option ℕ} {s : Sense} → NameIs m x o s → number_of scope x ≡ o
      → Passes m ks (Uses x s (Use.Heads (length (map (of_field (saying m ks)) ts)))) → {fs : List Field} {inner : Scope} {i k : ℕ} {p : Tree} {q : Proc}
      → AreFields m ks scope n ts fs inner i → IsProc m ks inner i p q k
      → IsProc m ks scope n (tree.Prefix (event_tree x ts) p) (proc.Prefix (head_of o (m x)) fs q) k
  prefix_typed x [] scope n (is_bound b) is pass t.no_fields h = t.bound_prefix is h
  prefix_typed x (a ∷ ts) scope n (is_bound b) is pass _ h = absurd (let g = pass.kind in cc)
  prefix_typed x ts scope n is_free is pass typed h =
      let u = head_entity m ks x (m x) _ pass in
      t.prefix (is, u.is ∙ ap (λ z. Some (Entity.Channel (channel_number (m x)) z)) (u.count ∙ length-map ts (of_field (saying m ks)))) typed h

  prefix_form : (x : Name) (ts : List FieldTree) → Every FieldTyped ts → (a : Tree) → TreeTyped a → TreeTyped (roll-Tree (Tree-F.Prefix (event_tree x ts) a))
  prefix_form x ts h a p = process_form (Tree-F.Prefix (event_tree x ts) a) (tree.rolls-Prefix _ _) (λ place names p. p.0.kind) (λ scope. refl) (λ scope n b l.
      at_event m ks (λ s r. AllPass m ks (tree_says_of_layer m (Tree-F.Prefix s (tree_says m a)) (process_at b l) (names_of scope))
      → IsProc m ks scope n (tree.Prefix (event_tree x ts) a) (proc_of_layer m ks (Tree-F.Prefix r (reading m ks a)) scope n)
      (n + binds_of_layer m ks (Tree-F.Prefix r (reading m ks a)))) x ts (λ pass.
      let w = two_parts (Passes m ks) (in_turn (map (of_field (saying m ks)) ts) (process_at b l) (names_of scope)) _ pass.1.1 in
      let inner = under (map (of_field (reads m ks)) ts) scope n in
      let body = subst (λ z. AllPass m ks (tree_says m a (process_at false (l + 1)) z)) (sym (add_names (of_field (saying m ks)) (of_field (reads m ks)) (field_names m ks) ts scope n)) w.1 in
      subst (IsProc m ks scope n _ _) (two_ends n _ _)
      (prefix_typed x ts scope n (name_is m scope x) refl pass.1.0 (fields_typed ts h scope n (process_at b l) w.0) (p.proc inner _ false (l + 1) refl body))))

  counted : (x : Name) {d : ℕ} (ts : List Tree) → m x ≡ Some (Entity.Definition d (length (map (tree_says m) ts))) → m x ≡ Some (Entity.Definition d (length ts))
  counted x {d} ts is = is ∙ ap (λ z. Some (Entity.Definition d z)) (length-map ts (tree_says m))

  abbrev bares : {A : Type 0} {P : A → Type 0} → List (Known P) → List A
  bares es = map (λ e. e.0) es

  tree_typed : (y : Tree-F (Known FieldTyped) (Known GenTyped) (Known TreeTyped) (Known EventTyped) (Known PartTyped)) → TreeTyped
      (roll-Tree (map-Tree (Known FieldTyped) (Known GenTyped) (Known TreeTyped) (Known EventTyped) (Known PartTyped) FieldTree GenTree Tree EventTree PartTree
      (λ e. e.0) (λ e. e.0) (λ e. e.0) (λ e. e.0) (λ e. e.0) y))
  tree_typed (Tree-F.Num k) = data_form (Tree-F.Num k) (tree.rolls-Num _) (λ place names p. p.0.kind) (λ scope n b l pass.
      subst (IsExpr m ks scope n _ _) (no_end n) t.number)
  tree_typed Tree-F.True = data_form Tree-F.True tree.rolls-True (λ place names p. p.0.kind) (λ scope n b l pass.
      subst (IsExpr m ks scope n _ _) (no_end n) t.truth)
  tree_typed Tree-F.False = data_form Tree-F.False tree.rolls-False (λ place names p. p.0.kind) (λ scope n b l pass.
      subst (IsExpr m ks scope n _ _) (no_end n) t.falsehood)
  tree_typed (Tree-F.Name x) = form (Tree-F.Name x) (tree.rolls-Name _)
      (λ scope n b l pass. subst (IsExpr m ks scope n _ _) (no_end n) (name_expr m ks kinds scope n x (name_is m scope x) b l refl pass.0))
      (λ scope n b l free pass.
      let u = alone m ks (name_is m scope x) b l pass.0 in
      subst (IsProc m ks scope n _ _) (no_end n) (t.process (u.free, u.is) (process_of m ks b u free (kinds.at x _ 0 u.is))))
      (λ scope n l some pass.
      let u = alone m ks (name_is m scope x) true l pass.0 in
      subst (IsComposition m ks scope n _ _) (no_end n) (t.network (u.free, u.is) (network_of m ks u some (kinds.at x _ 0 u.is))))
  tree_typed (Tree-F.Call x items) = form (Tree-F.Call x (bares items)) (tree.rolls-Call _ _)
      (λ scope n b l pass.
      let u = called m ks (name_is m scope x) _ (data_at b l) pass.0 in
      t.call (u.free, counted x (bares items) u.is) (data_of m ks u (kinds.at x _ _ u.is)) (exprs_typed _ (known items) scope n false (l + 1) pass.1))
      (λ scope n b l free pass.
      let u = called m ks (name_is m scope x) _ (process_at b l) pass.0 in
      t.process_call (u.free, counted x (bares items) u.is) (process_of m ks b u free (kinds.at x _ _ u.is)) (exprs_typed _ (known items) scope n false (l + 1) pass.1))
      (λ scope n l some pass.
      let u = called m ks (name_is m scope x) _ (process_at true l) pass.0 in
      t.network_call (u.free, counted x (bares items) u.is) (network_of m ks u some (kinds.at x _ _ u.is)) (exprs_typed _ (known items) scope n false (l + 1) pass.1))
  tree_typed (Tree-F.«Tree::Dot» c items) = data_form (Tree-F.«Tree::Dot» c (bares items)) (tree.rolls-Dot _ _) (λ place names p. p.0.kind) (λ scope n b l pass.
      let u = dotted_use m ks (name_is m scope c) _ pass.1.0 in
      t.dotted (u.free, u.is ∙ ap (λ z. Some (Entity.Channel (channel_number (m c)) z)) (u.count ∙ length-map (bares items) (tree_says m)))
      (exprs_typed _ (known items) scope n false (l + 1) pass.1.1))
  tree_typed (Tree-F.Neg a) = data_form (Tree-F.Neg a.0) (tree.rolls-Neg _) (λ place names p. p.0.kind) (λ scope n b l pass.
      t.negative (a.1.expr scope n false (l + 1) pass.1))
  tree_typed (Tree-F.Not a) = data_form (Tree-F.Not a.0) (tree.rolls-Not _) (λ place names p. p.0.kind) (λ scope n b l pass.
      t.negation (a.1.expr scope n false (l + 1) pass.1))
  tree_typed (Tree-F.Binary op a c) = data_form (Tree-F.Binary op a.0 c.0) (tree.rolls-Binary _ _ _) (λ place names p. p.0.kind) (λ scope n b l pass.
      let w = two_parts (Passes m ks) _ _ pass.1 in
      subst (IsExpr m ks scope n _ _) (two_ends n _ _) (t.binary (a.1.expr scope n false (l + 1) w.0) (c.1.expr scope _ false (l + 1) w.1)))
  tree_typed (Tree-F.If c p q) = form (Tree-F.If c.0 p.0 q.0) (tree.rolls-If _ _ _)
      (λ scope n b l pass.
      let w = three_parts (Passes m ks) _ _ _ pass in
      subst (IsExpr m ks scope n _ _) (three_ends n _ _ _)
      (t.expr_if (c.1.expr scope n false (l + 1) w.0) (p.1.expr scope _ b (l + 1) w.1) (q.1.expr scope _ b (l + 1) w.2)))
      (λ scope n b l free pass.
      let w = three_parts (Passes m ks) _ _ _ pass in
      subst (IsProc m ks scope n _ _) (three_ends n _ _ _)
      (t.proc_if (c.1.expr scope n false (l + 1) w.0) (p.1.proc scope _ b (l + 1) (left_false b _ ((reading m ks q.0).networked scope) free) w.1)
      (q.1.proc scope _ b (l + 1) (right_false b ((reading m ks p.0).networked scope) _ free) w.2)))
      (λ scope n l some pass.
      let w = three_parts (Passes m ks) _ _ _ pass in
      subst (IsComposition m ks scope n _ _) (three_ends n _ _ _)
      (if_typed p.1 q.1 scope n _ (l + 1) _ refl some (c.1.expr scope n false (l + 1) w.0) w.1 w.2))
  tree_typed (Tree-F.Display items) = data_form (Tree-F.Display (bares items)) (tree.rolls-Display _) (λ place names p. p.0.kind) (λ scope n b l pass.
      t.display (exprs_typed _ (known items) scope n false (l + 1) pass.1))
  tree_typed (Tree-F.Range a c) = data_form (Tree-F.Range a.0 c.0) (tree.rolls-Range _ _) (λ place names p. p.0.kind) (λ scope n b l pass.
      let w = two_parts (Passes m ks) _ _ pass.1 in
      subst (IsExpr m ks scope n _ _) (two_ends n _ _) (t.range (a.1.expr scope n false (l + 1) w.0) (c.1.expr scope _ false (l + 1) w.1)))
  tree_typed (Tree-F.Comp items gens) = data_form (Tree-F.Comp (bares items) (bares gens)) (tree.rolls-Comp _ _) (λ place names p. p.0.kind) (λ scope n b l pass.
      let w = two_parts (Passes m ks) _ _ pass.1 in
      let k = n + all_bind (map (reading m ks) (bares items)) in
      subst (IsExpr m ks scope n _ _) (two_ends n _ _) (t.comprehension
      (exprs_typed (bares items) (known items) (under (map (of_gen (reads m ks)) (bares gens)) scope k) n false (l + 1)
      (under_gens (all_say (map (tree_says m) (bares items))) (data_at false (l + 1)) (bares gens) scope k w.0))
      (gens_typed (bares gens) (known gens) scope k (data_at b l) w.1)))
  tree_typed (Tree-F.Product fronts gens) = data_form (Tree-F.Product (bares fronts) (bares gens)) (tree.rolls-Product _ _) (λ place names p. p.0.kind) (λ scope n b l pass.
      let w = two_parts (Passes m ks) _ _ pass.1 in
      let k = n + parts_bind (map (of_part (reads m ks)) (bares fronts)) in
      subst (IsExpr m ks scope n _ _) (two_ends n _ _) (t.product
      (fronts_typed (bares fronts) (known fronts) (under (map (of_gen (reads m ks)) (bares gens)) scope k) n (data_at b l)
      (under_gens (all_say (map (part_says m) (map (of_part (saying m ks)) (bares fronts)))) (data_at b l) (bares gens) scope k w.0))
      (gens_typed (bares gens) (known gens) scope k (data_at b l) w.1)))
  tree_typed (Tree-F.SetOp op a c) = data_form (Tree-F.SetOp op a.0 c.0) (tree.rolls-SetOp _ _ _) (λ place names p. p.0.kind) (λ scope n b l pass.
      let w = two_parts (Passes m ks) _ _ pass.1 in
      subst (IsExpr m ks scope n _ _) (two_ends n _ _) (t.set_operator (a.1.expr scope n false (l + 1) w.0) (c.1.expr scope _ false (l + 1) w.1)))
  tree_typed Tree-F.Stop = process_form Tree-F.Stop tree.rolls-Stop (λ place names p. p.0.kind) (λ scope. refl) (λ scope n b l pass.
      subst (IsProc m ks scope n _ _) (no_end n) t.stop)
  tree_typed Tree-F.Skip = process_form Tree-F.Skip tree.rolls-Skip (λ place names p. p.0.kind) (λ scope. refl) (λ scope n b l pass.
      subst (IsProc m ks scope n _ _) (no_end n) t.skip)
  tree_typed (Tree-F.Prefix event p) =
      subst (λ e. TreeTyped (roll-Tree (Tree-F.Prefix e p.0))) event.1.is (prefix_form event.1.name event.1.fields event.1.typed p.0 p.1)
  tree_typed (Tree-F.Guard c p) = process_form (Tree-F.Guard c.0 p.0) (tree.rolls-Guard _ _) (λ place names p. p.0.kind) (λ scope. refl) (λ scope n b l pass.
      let w = two_parts (Passes m ks) _ _ pass.1 in
      subst (IsProc m ks scope n _ _) (two_ends n _ _) (t.guard (c.1.expr scope n false (l + 1) w.0) (p.1.proc scope _ false (l + 1) refl w.1)))
  tree_typed (Tree-F.External ps) = process_form (Tree-F.External (bares ps)) (tree.rolls-External _) (λ place names p. p.0.kind) (λ scope. refl) (λ scope n b l pass.
      t.external (procs_typed _ (known ps) scope n (l + 1) pass.1))
  tree_typed (Tree-F.Internal ps) = process_form (Tree-F.Internal (bares ps)) (tree.rolls-Internal _) (λ place names p. p.0.kind) (λ scope. refl) (λ scope n b l pass.
      t.internal (procs_typed _ (known ps) scope n (l + 1) pass.1))
  tree_typed (Tree-F.EachExternal x a p) = process_form (Tree-F.EachExternal x a.0 p.0) (tree.rolls-EachExternal _ _ _) (λ place names p. p.0.kind) (λ scope. refl) (λ scope n b l pass.
      let w = two_parts (Passes m ks) _ _ pass.1.1 in
      subst (IsProc m ks scope n _ _) (three_ends n 1 _ _) (t.each_external (may_bind m ks x pass.1.0) (a.1.expr scope (n + 1) false (l + 1) w.0)
      (p.1.proc (with scope x n) _ false (l + 1) refl (with_one (tree_says m p.0) (process_at false (l + 1)) scope x n w.1))))
  tree_typed (Tree-F.EachInternal x a p) = process_form (Tree-F.EachInternal x a.0 p.0) (tree.rolls-EachInternal _ _ _) (λ place names p. p.0.kind) (λ scope. refl) (λ scope n b l pass.
      let w = two_parts (Passes m ks) _ _ pass.1.1 in
      subst (IsProc m ks scope n _ _) (three_ends n 1 _ _) (t.each_internal (may_bind m ks x pass.1.0) (a.1.expr scope (n + 1) false (l + 1) w.0)
      (p.1.proc (with scope x n) _ false (l + 1) refl (with_one (tree_says m p.0) (process_at false (l + 1)) scope x n w.1))))
  tree_typed (Tree-F.Parallel p a c q) = network_form (Tree-F.Parallel p.0 a.0 c.0 q.0) (tree.rolls-Parallel _ _ _ _) (λ place names p. (p.0.kind, p.0.inside)) (λ scope. refl) (λ scope n l pass.
      let w = four_parts (Passes m ks) _ _ _ _ pass.1 in
      subst (IsComposition m ks scope n _ _) (four_ends n _ _ _ _) (t.parallel (net_of p.1 scope n (l + 1) w.0) (a.1.expr scope _ false (l + 1) w.1)
      (c.1.expr scope _ false (l + 1) w.2) (net_of q.1 scope _ (l + 1) w.3)))
  tree_typed (Tree-F.EachParallel x a c p) = network_form (Tree-F.EachParallel x a.0 c.0 p.0) (tree.rolls-EachParallel _ _ _ _) (λ place names p. (p.0.kind, p.0.inside)) (λ scope. refl) (λ scope n l pass.
      let w = three_parts (Passes m ks) _ _ _ pass.1.1 in
      subst (IsComposition m ks scope n _ _) (four_ends n 1 _ _ _) (t.each_parallel (may_bind m ks x pass.1.0) (a.1.expr scope (n + 1) false (l + 1) w.0)
      (c.1.expr (with scope x n) _ false (l + 1) (with_one (tree_says m c.0) (data_at false (l + 1)) scope x n w.1))
      (net_of p.1 (with scope x n) _ (l + 1) (with_one (tree_says m p.0) (process_at true (l + 1)) scope x n w.2))))
  tree_typed (Tree-F.Seq p q) = process_form (Tree-F.Seq p.0 q.0) (tree.rolls-Seq _ _) (λ place names p. p.0.kind) (λ scope. refl) (λ scope n b l pass.
      let w = two_parts (Passes m ks) _ _ pass.1 in
      subst (IsProc m ks scope n _ _) (two_ends n _ _) (t.sequence (p.1.proc scope n false (l + 1) refl w.0) (q.1.proc scope _ false (l + 1) refl w.1)))
  tree_typed (Tree-F.Hide p a) = process_form (Tree-F.Hide p.0 a.0) (tree.rolls-Hide _ _) (λ place names p. p.0.kind) (λ scope. refl) (λ scope n b l pass.
      let w = two_parts (Passes m ks) _ _ pass.1 in
      subst (IsProc m ks scope n _ _) (two_ends n _ _) (t.hide (p.1.proc scope n false (l + 1) refl w.0) (a.1.expr scope _ false (l + 1) w.1)))
  tree_typed (Tree-F.Rename p twos gens) =
      process_form (Tree-F.Rename p.0 (map (both_of (λ e. e.0)) twos) (bares gens)) (tree.rolls-Rename _ _ _) (λ place names p. p.0.kind) (λ scope. refl) (λ scope n b l pass.
      let w = three_parts (Passes m ks) _ _ _ pass.1 in
      let i = n + (reading m ks p.0).binds in
      let k = i + pairs_bind (map (both_of (of_part (reads m ks))) (map (both_of (λ e. e.0)) twos)) in
      subst (IsProc m ks scope n _ _) (three_ends n _ _ _) (t.rename (p.1.proc scope n false (l + 1) refl w.0)
      (pairs_typed twos (under (map (of_gen (reads m ks)) (bares gens)) scope k) i (process_at b l)
      (under_gens (all_say (map (pair_says m) (map (both_of (of_part (saying m ks))) (map (both_of (λ e. e.0)) twos)))) (process_at b l) (bares gens) scope k w.1))
      (gens_typed (bares gens) (known gens) scope k (process_at b l) w.2)))

  field_typed : (y : FieldTree-F (Known FieldTyped) (Known GenTyped) (Known TreeTyped) (Known EventTyped) (Known PartTyped)) → FieldTyped
      (roll-FieldTree (map-FieldTree (Known FieldTyped) (Known GenTyped) (Known TreeTyped) (Known EventTyped) (Known PartTyped) FieldTree GenTree Tree EventTree PartTree
      (λ e. e.0) (λ e. e.0) (λ e. e.0) (λ e. e.0) (λ e. e.0) y))
  field_typed (FieldTree-F.«FieldTree::Dot» a) = field_rolled m ks (Enters (AreFields m ks)) (FieldTree-F.«FieldTree::Dot» a.0) (text.rolls-Dot _)
      (λ scope n place pass ts fs inner k rest. t.dot (a.1.expr scope n false (place.level + 1) pass) rest)
  field_typed (FieldTree-F.Output a) = field_rolled m ks (Enters (AreFields m ks)) (FieldTree-F.Output a.0) (text.rolls-Output _)
      (λ scope n place pass ts fs inner k rest. t.output (a.1.expr scope n false (place.level + 1) pass) rest)
  field_typed (FieldTree-F.Input x None) = field_rolled m ks (Enters (AreFields m ks)) (FieldTree-F.Input x None) (text.rolls-Input _ _)
      (λ scope n place pass ts fs inner k rest. t.input (may_bind m ks x pass.0) rest)
  field_typed (FieldTree-F.Input x (Some a)) = field_rolled m ks (Enters (AreFields m ks)) (FieldTree-F.Input x (Some a.0)) (text.rolls-Input _ _)
      (λ scope n place pass ts fs inner k rest.
      t.input_from (may_bind m ks x pass.0) (subst (IsExpr m ks scope (n + 1) _ _) (two_ends n 1 _) (a.1.expr scope (n + 1) false (place.level + 1) pass.1)) rest)

  gen_typed : (y : GenTree-F (Known FieldTyped) (Known GenTyped) (Known TreeTyped) (Known EventTyped) (Known PartTyped)) → GenTyped
      (roll-GenTree (map-GenTree (Known FieldTyped) (Known GenTyped) (Known TreeTyped) (Known EventTyped) (Known PartTyped) FieldTree GenTree Tree EventTree PartTree
      (λ e. e.0) (λ e. e.0) (λ e. e.0) (λ e. e.0) (λ e. e.0) y))
  gen_typed (GenTree-F.From x a) = gen_rolled m ks (Enters (AreGens m ks)) (GenTree-F.From x a.0) (generator.rolls-From _ _)
      (λ scope n place pass ts gs inner k rest.
      t.from (may_bind m ks x pass.0) (subst (IsExpr m ks scope (n + 1) _ _) (two_ends n 1 _) (a.1.expr scope (n + 1) false (place.level + 1) pass.1)) rest)
  gen_typed (GenTree-F.Cond a) = gen_rolled m ks (Enters (AreGens m ks)) (GenTree-F.Cond a.0) (generator.rolls-Cond _)
      (λ scope n place pass ts gs inner k rest. t.condition (a.1.expr scope n false (place.level + 1) pass) rest)

  part_typed : (x : Name) (ts : List Tree) → Every TreeTyped ts → PartTyped (part_tree x ts)
  part_typed x ts h scope n place =
      at_part m ks (λ s r. AllPass m ks (part_says m s place (names_of scope)) → FrontTyped (part_tree x ts) s r scope n) x ts (λ pass.
      let u = begins_use m ks (name_is m scope x) _ pass.0 in
      record {
        channel = channel_number (m x);
        fields = u.fields;
        sense_is = u.sense_is;
        is = t.front (u.free, u.is) (all_left _ _ u.fields (length-map ts (tree_says m)) u.count) (exprs_typed ts h scope n false (place.level + 1) pass.1);
      })

  pub typable : (t : Tree) → TreeTyped t
  typable = ind-Tree FieldTyped GenTyped TreeTyped EventTyped PartTyped
      (λ z y is. subst (λ t. FieldTyped (roll-FieldTree t)) is (field_typed y))
      (λ z y is. subst (λ t. GenTyped (roll-GenTree t)) is (gen_typed y))
      (λ z y is. subst (λ t. TreeTyped (roll-Tree t)) is (tree_typed y))
      (λ z y is. subst (λ t. EventTyped (roll-EventTree t)) is (record { name = y.name; fields = bares y.fields; is = refl; typed = known y.fields }))
      (λ z y is. subst (λ t. PartTyped (roll-PartTree t)) is (part_typed y.name (bares y.fields) (known y.fields)))
