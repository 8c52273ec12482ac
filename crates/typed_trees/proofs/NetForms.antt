-- What each form of a tree is as a network, by the equations that are made of the folds.
use Rattle.typed_trees.proofs.Prelude.{◌≡◌, ◌+◌, true, false, cond, ◌||◌, List, [], ap, sym, ◌∙◌, rules, out-Tree, roll-out-Tree, Tree, is_network, Name, first_of, sense_in, definition_number, names_of, network_of_layer, networked_of_layer, proc_of_layer, reading_of_layer, tokens, Walked, past, read_at, bound, exprs_at, the_lemmas, Net, expr_at, net_at, networked_at, proc_at}
use Rattle.csp_text.specs.declared.tree.Tree.TheVariants as tree
use Rattle.csp_program.specs.declared.networks.Net.TheVariants as net
use Rattle.typed_trees.proofs.Rolls.{layer_read, tree_rolls}
use Rattle.typed_trees.proofs.SameTokens.{same_tree}
use Rattle.typed_trees.proofs.ExprForms.{exprs_are}

module _ (w : Walked) where
  -- a tree that isn't networked is a leaf
  pub net_leaf : (t : Tree) → networked_at w t ≡ false → net_at w t ≡ net.Leaf (proc_at w t)
  unfolding networked_at net_at proc_at
  net_leaf t h =
      let d = layer_read w.names w.kinds (out-Tree t) in
      let read : read_at w t ≡ reading_of_layer (first_of w.names) w.kinds d =
      ap (read_at w) (sym (roll-out-Tree t))
      ∙ tree_rolls w.names w.kinds (out-Tree t) in
      let here : networked_of_layer (first_of w.names) w.kinds d w.scope ≡ false = sym (ap (λ r. r.networked w.scope) read) ∙ h in
      let leaf : Net = net.Leaf (proc_of_layer (first_of w.names) w.kinds d w.scope w.next) in
      ap (λ r. r.net w.scope w.next) read
      ∙ ap (λ flag. cond flag (network_of_layer (first_of w.names) w.kinds d w.scope w.next) leaf) here
      ∙ ap (λ r. net.Leaf (r.proc w.scope w.next)) (sym read)

  pub networked-Name : (x : Name) → networked_at w (tree.Name x) ≡ is_network w.kinds (sense_in (first_of w.names) (names_of w.scope) x)
  unfolding networked_at
  networked-Name x = search (rules, the_lemmas)

  pub networked-Call : (f : Name) (args : List Tree)
      → networked_at w (tree.Call f args) ≡ is_network w.kinds (sense_in (first_of w.names) (names_of w.scope) f)
  unfolding networked_at
  networked-Call f args = search (rules, the_lemmas)

  pub networked-If : (c p q : Tree) → networked_at w (tree.If c p q) ≡ (networked_at w p || networked_at w q)
  unfolding networked_at
  networked-If c p q = search (rules, the_lemmas)

  pub networked-Parallel : (p a b q : Tree) → networked_at w (tree.Parallel p a b q) ≡ true
  unfolding networked_at
  networked-Parallel p a b q = search (rules, the_lemmas)

  pub networked-EachParallel : (x : Name) (s a p : Tree) → networked_at w (tree.EachParallel x s a p) ≡ true
  unfolding networked_at
  networked-EachParallel x s a p = search (rules, the_lemmas)

  pub net-Name : (x : Name) → networked_at w (tree.Name x) ≡ true
      → net_at w (tree.Name x) ≡ net.Call (definition_number (first_of w.names x)) []
  unfolding net_at
  net-Name x h = let here = sym (networked-Name x) ∙ h in search (rules, the_lemmas, here)

  pub net-Call : (f : Name) (args : List Tree) → networked_at w (tree.Call f args) ≡ true
      → net_at w (tree.Call f args) ≡ net.Call (definition_number (first_of w.names f)) (exprs_at w args)
  unfolding net_at
  net-Call f args h = let here = sym (networked-Call f args) ∙ h in search (rules, the_lemmas, here, exprs_are w args)

  pub net-If : (c p q : Tree) → networked_at w (tree.If c p q) ≡ true
      → net_at w (tree.If c p q) ≡ net.If (expr_at w c) (net_at (past w (tokens c)) p) (net_at (past (past w (tokens c)) (tokens p)) q)
  unfolding net_at expr_at networked_at
  net-If c p q h =
      let here = sym (networked-If c p q) ∙ h in
      search (rules, the_lemmas, here, same_tree w.names w.kinds c, same_tree w.names w.kinds p)

  pub net-Parallel : (p a b q : Tree) → net_at w (tree.Parallel p a b q)
      ≡ net.Pair (net_at w p) (expr_at (past w (tokens p)) a) (expr_at (past (past w (tokens p)) (tokens a)) b)
      (net_at (past (past (past w (tokens p)) (tokens a)) (tokens b)) q)
  unfolding net_at expr_at
  net-Parallel p a b q =
      search (rules, the_lemmas, same_tree w.names w.kinds p, same_tree w.names w.kinds a, same_tree w.names w.kinds b)

  pub net-EachParallel : (x : Name) (s a p : Tree) → net_at w (tree.EachParallel x s a p)
      ≡ net.Each w.next (expr_at (past w 1) s) (expr_at (past (bound w x) (tokens s)) a)
      (net_at (past (past (bound w x) (tokens s)) (tokens a)) p)
  unfolding net_at expr_at
  net-EachParallel x s a p = search (rules, the_lemmas, same_tree w.names w.kinds s, same_tree w.names w.kinds a)

pub ruleset networked_forms = (networked-Name, networked-Call, networked-If, networked-Parallel, networked-EachParallel)

pub ruleset net_forms = (net_leaf, net-Name, net-Call, net-If, net-Parallel, net-EachParallel)
