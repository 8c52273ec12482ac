-- Where a tree is a network by the rules of typing, it is read as that network and passes at a network position.
use Rattle.typed_laws.proofs.Sources.{◌≡◌, ℕ, ◌+◌, true, false, ◌||◌, List, [], length, map, refl, ◌∙◌, ap, subst, arith, if◌then◌else◌, length-map, is_network, kind_network, Meanings, Said, tree_says, Scope, names_of, with, Layer, Reading, definition_number, net_of_layer, network_of_layer, networked_of_layer, proc_of_layer, reading, IsComposition, IsNet, Kind, Net, Parallel, Proc, Tree, Tree-F, out-Tree, roll-out-Tree, Entity}
use Rattle.csp_text.specs.declared.tree.Tree.TheVariants as tree
use Rattle.csp_program.specs.declared.networks.Net.TheVariants as net
use Rattle.script_names.specs.Typing as t
use Rattle.typed_laws.proofs.Trees.{at_tree, reads, tree_parts}
use Rattle.typed_laws.proofs.ExprsAre.{add_three, expr_is, exprs_are, none_next}
use Rattle.typed_laws.proofs.Passing.{AllPass, Passes, data_at, join_three, join_four, process_at, use_passes}
use Rattle.typed_laws.proofs.ProcsAre.{proc_is}
use Rattle.typed_laws.proofs.ScopeNames.{names_with}
use Rattle.typed_laws.proofs.Senses.{bind_passes, call_passes, definition_passes, means_is}

add_four : (n a b c d i j l k : ℕ) → n + a ≡ i → i + b ≡ j → j + c ≡ l → l + d ≡ k → n + (a + b + c + d) ≡ k
add_four n a b c d i j l k h g e f = omega arith

add_one_three : (n a b c i j k : ℕ) → (n + 1) + a ≡ i → i + b ≡ j → j + c ≡ k → n + (1 + a + b + c) ≡ k
add_one_three n a b c i j k h g e = omega arith

module _ (m : Meanings) (ks : List Kind) where
  pub record NetIs (s : Said) (r : Reading) (scope : Scope) (n : ℕ) (w : Net) (k : ℕ) : Type 0 where
    pub value : r.net scope n ≡ w
    pub next : n + r.binds ≡ k
    pub passes : (l : ℕ) → AllPass m ks (s (process_at true l) (names_of scope))

  pub record CompositionIs (s : Said) (r : Reading) (scope : Scope) (n : ℕ) (w : Net) (k : ℕ) : Type 0 where
    pub value : r.net scope n ≡ w
    pub next : n + r.binds ≡ k
    pub joined : r.networked scope ≡ true
    pub passes : (l : ℕ) → AllPass m ks (s (process_at true l) (names_of scope))

  parallel_passes : (l : ℕ) → Passes m ks (Parallel (process_at true l))
  parallel_passes l = record { known = refl; once = refl; kind = refl; count = refl; inside = refl }

  leaf_layer : (d : Layer m ks) (scope : Scope) (n : ℕ) → networked_of_layer m ks d scope ≡ false
      → net_of_layer m ks d scope n ≡ net.Leaf (proc_of_layer m ks d scope n)
  leaf_layer d scope n h = ap (λ b. if b then network_of_layer m ks d scope n else net.Leaf (proc_of_layer m ks d scope n)) h

  joined_layer : (d : Layer m ks) (scope : Scope) (n : ℕ) → networked_of_layer m ks d scope ≡ true
      → net_of_layer m ks d scope n ≡ network_of_layer m ks d scope n
  joined_layer d scope n h = ap (λ b. if b then network_of_layer m ks d scope n else net.Leaf (proc_of_layer m ks d scope n)) h

  -- where a process is the leaf of a network
  leaf_value : (a : Tree) (scope : Scope) (n : ℕ) (q : Proc) → (reading m ks a).networked scope ≡ false → (reading m ks a).proc scope n ≡ q
      → (reading m ks a).net scope n ≡ net.Leaf q
  leaf_value a scope n q leaf is =
      at_tree m ks (λ _ s r. r.networked scope ≡ false → r.net scope n ≡ net.Leaf (r.proc scope n)) (out-Tree a) (roll-out-Tree a)
      (leaf_layer (tree_parts (reads m ks) (out-Tree a)) scope n) leaf ∙ ap net.Leaf is

  mutual
    pub net_is : {scope : Scope} {n k : ℕ} {a : Tree} {w : Net} → IsNet m ks scope n a w k → NetIs (tree_says m a) (reading m ks a) scope n w k
    net_is {scope} {n} {k} (t.component {t = a} {q = q} h) =
        let w = proc_is m ks h in record { value = leaf_value a scope n q w.leaf w.value; next = w.next; passes = w.passes true }
    net_is {scope} {n} {k} (t.composition h) = let w = composition_is h in record { value = w.value; next = w.next; passes = w.passes }

    pub composition_is : {scope : Scope} {n k : ℕ} {a : Tree} {w : Net} → IsComposition m ks scope n a w k
        → CompositionIs (tree_says m a) (reading m ks a) scope n w k
    composition_is {scope} {n} (t.network {d = d} {x = x} h is) =
        let joined : is_network ks _ ≡ true = ap (is_network ks) (means_is m ks scope x (Entity.Definition d 0) h) ∙ ap kind_network is in
        at_tree m ks (λ _ s r. CompositionIs s r scope n (net.Call d []) n) (Tree-F.Name x) (tree.rolls-Name _) (record {
          value = joined_layer (Tree-F.Name x) scope n joined ∙ ap (λ e. net.Call (definition_number e) []) h.1;
          next = none_next n;
          joined = joined;
          passes = λ l. (use_passes m ks x _ _ _ (means_is m ks scope x (Entity.Definition d 0) h) (definition_passes m ks x d _ (process_at true l) is refl refl), tt);
        })
    composition_is {scope} {n} {k} (t.network_call {d = d} {f = x} {args = args} {es = es} h is g) =
        let w = exprs_are m ks g in
        let joined : is_network ks _ ≡ true = ap (is_network ks) (means_is m ks scope x (Entity.Definition d (length args)) h) ∙ ap kind_network is in
        at_tree m ks (λ _ s r. CompositionIs s r scope n (net.Call d es) k) (Tree-F.Call x args) (tree.rolls-Call _ _) (record {
          value = joined_layer (tree_parts (reads m ks) (Tree-F.Call x args)) scope n joined ∙ (λ i. net.Call (ap definition_number h.1 i) (w.value i));
          next = w.next;
          joined = joined;
          passes = λ l. (
            use_passes m ks x _ _ _ (means_is m ks scope x (Entity.Definition d (length args)) h)
                (call_passes m ks x d (length args) (length (map (tree_says m) args)) _ (process_at true l) is refl refl (length-map args (tree_says m))),
            w.passes false (l + 1),
          );
        })
    composition_is {scope} {n} {k} (t.if_first {c = c} {p = a} {q = b} {e = e} {v = v} {w = w} h h' h'') =
        let u = expr_is m ks h in let y = composition_is h' in let z = net_is h'' in
        at_tree m ks (λ _ s r. CompositionIs s r scope n (net.If e v w) k) (Tree-F.If c a b) (tree.rolls-If _ _ _) (record {
          value = joined_layer (tree_parts (reads m ks) (Tree-F.If c a b)) scope n (ap (λ i. i || (reading m ks b).networked scope) y.joined)
              ∙ (λ j. net.If (u.value j) ((ap ((reading m ks a).net scope) u.next ∙ y.value) j)
              ((ap (λ i. (reading m ks b).net scope (i + (reading m ks a).binds)) u.next ∙ ap ((reading m ks b).net scope) y.next ∙ z.value) j));
          next = add_three _ _ _ _ _ _ _ u.next y.next z.next;
          joined = ap (λ i. i || (reading m ks b).networked scope) y.joined;
          passes = λ l. join_three (Passes m ks) _ _ _ (u.passes false (l + 1)) (y.passes (l + 1)) (z.passes (l + 1));
        })
    composition_is {scope} {n} {k} (t.if_second {i = i} {c = c} {p = a} {q = b} {e = e} {r = p} {w = w} h h' h'') =
        let u = expr_is m ks h in let y = proc_is m ks h' in let z = composition_is h'' in
        at_tree m ks (λ _ s r. CompositionIs s r scope n (net.If e (net.Leaf p) w) k) (Tree-F.If c a b) (tree.rolls-If _ _ _) (record {
          value = joined_layer (tree_parts (reads m ks) (Tree-F.If c a b)) scope n (λ j. y.leaf j || z.joined j)
              ∙ (λ j. net.If (u.value j) ((ap ((reading m ks a).net scope) u.next ∙ leaf_value a scope i p y.leaf y.value) j)
              ((ap (λ i. (reading m ks b).net scope (i + (reading m ks a).binds)) u.next ∙ ap ((reading m ks b).net scope) y.next ∙ z.value) j));
          next = add_three _ _ _ _ _ _ _ u.next y.next z.next;
          joined = λ j. y.leaf j || z.joined j;
          passes = λ l. join_three (Passes m ks) _ _ _ (u.passes false (l + 1)) (y.passes true (l + 1)) (z.passes (l + 1));
        })
    composition_is {scope} {n} {k} (t.parallel {p = a} {a = c} {b = d} {q = b} {e = e} {f = f} {v = v} {w = w} h g g' h') =
        let u = net_is h in let x = expr_is m ks g in let y = expr_is m ks g' in let z = net_is h' in
        at_tree m ks (λ _ s r. CompositionIs s r scope n (net.Pair v e f w) k) (Tree-F.Parallel a c d b) (tree.rolls-Parallel _ _ _ _) (record {
          value = λ j. net.Pair (u.value j) ((ap ((reading m ks c).expr scope) u.next ∙ x.value) j)
              ((ap (λ i. (reading m ks d).expr scope (i + (reading m ks c).binds)) u.next ∙ ap ((reading m ks d).expr scope) x.next ∙ y.value) j)
              ((ap (λ i. (reading m ks b).net scope (i + (reading m ks c).binds + (reading m ks d).binds)) u.next
              ∙ ap (λ i. (reading m ks b).net scope (i + (reading m ks d).binds)) x.next ∙ ap ((reading m ks b).net scope) y.next ∙ z.value) j);
          next = add_four _ _ _ _ _ _ _ _ _ u.next x.next y.next z.next;
          joined = refl;
          passes = λ l. (parallel_passes l, join_four (Passes m ks) _ _ _ _ (u.passes (l + 1)) (x.passes false (l + 1)) (y.passes false (l + 1)) (z.passes (l + 1)));
        })
    composition_is {scope} {n} {k} (t.each_parallel {x = x} {s = a} {a = c} {p = b} {e = e} {f = f} {w = w} free h g h') =
        let u = expr_is m ks h in let y = expr_is m ks g in let z = net_is h' in
        at_tree m ks (λ _ s r. CompositionIs s r scope n (net.Each n e f w) k) (Tree-F.EachParallel x a c b) (tree.rolls-EachParallel _ _ _ _) (record {
          value = λ j. net.Each n (u.value j) ((ap ((reading m ks c).expr (with scope x n)) u.next ∙ y.value) j)
              ((ap (λ i. (reading m ks b).net (with scope x n) (i + (reading m ks c).binds)) u.next ∙ ap ((reading m ks b).net (with scope x n)) y.next ∙ z.value) j);
          next = add_one_three _ _ _ _ _ _ _ u.next y.next z.next;
          joined = refl;
          passes = λ l. (
            parallel_passes l,
            (
              bind_passes m ks x free,
              join_three (Passes m ks) _ _ _ (u.passes false (l + 1))
                  (subst (λ i. AllPass m ks (tree_says m c (data_at false (l + 1)) i)) (names_with scope x n) (y.passes false (l + 1)))
                  (subst (λ i. AllPass m ks (tree_says m b (process_at true (l + 1)) i)) (names_with scope x n) (z.passes (l + 1))),
            ),
          );
        })
