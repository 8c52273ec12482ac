-- The walk of a network makes each tree that the network has within the limits.
use Rattle.network_trees.proofs.Prelude.{◌≡◌, ℕ, zero, suc, ◌+◌, ◌-◌, ◌<◌, ◌≤◌, if◌then◌else◌, None, Ok, Err, List, [], ◌∷◌, ◌++◌, length, map, refl, ap, sym, ◌∙◌, arith, lt-ltb, length-append, Outcome, given_by, proc_with, Env, Expr, Net, Net-F, out-Net, out-roll-Net, roll-Net, Proc, Content, Component, Tree, Operands, leaves, leaves_of_operands, leaf, parallel, none, operand, WellNested, OperandsWellNested, joint, odd_event, Walked, agreed, events_under, next_component, each_operand, goes_on, nested, network_called, network_of, operand_first, side_by_side, some_components, two_operands, tree_within, walked_leaf, walked_node, with_value, Atom, One, set_under, slice_get, MOST_COMPONENTS, IsTreeOf, AreOperandsOf, IsSpelledBy, depth, greatest_depth}
use Rattle.network_trees.proofs.JointLemmas.{has-joint, none_odd}
use Rattle.network_trees.proofs.Values.{events_given, network_given, set_given, truth_given}
use Rattle.network_trees.specs.Spelled.IsTreeOf.{call, chosen, component, each, pair}
use Rattle.network_trees.specs.Spelled.AreOperandsOf.{no_operand, one_operand}
use Rattle.csp_program.specs.declared.networks.Net.TheVariants as net
use Rattle.network_trees.specs.declared.fault.LayoutFault.TheVariants as fault

-- ---- the walk of a network of a form

next_is : (k : ℕ) (alphabet : List ℕ) (q : Proc) → k < MOST_COMPONENTS → next_component k alphabet q ≡ Ok (leaf (record { alphabet = alphabet; term = q }))
next_is k alphabet q lt = ap (λ b. if b then Ok (leaf (record { alphabet = alphabet; term = q })) else Err fault.ComponentLimit) (lt-ltb k MOST_COMPONENTS lt)

layer : (d : Net-F Net) {n : Net} → roll-Net d ≡ n → out-Net n ≡ d
layer d e = ap out-Net (sym e) ∙ out-roll-Net d

leaf_walked : (p : Content) (levels k : ℕ) (alphabet : List ℕ) (env : Env) (q : Proc) → tree_within p levels k alphabet env (net.Leaf q) ≡ next_component k alphabet (proc_with (given_by env) q)
unfolding tree_within
leaf_walked p zero k alphabet env q = ap (walked_leaf k alphabet env) (layer (Net-F.Leaf q) (net.rolls-Leaf q))
leaf_walked p (suc levels) k alphabet env q = ap (walked_node p (tree_within p levels) k alphabet env) (layer (Net-F.Leaf q) (net.rolls-Leaf q))

node_walked : (p : Content) (levels k : ℕ) (alphabet : List ℕ) (env : Env) (d : Net-F Net) {n : Net} → roll-Net d ≡ n → 0 < levels
    → tree_within p levels k alphabet env n ≡ walked_node p (tree_within p (levels - 1)) k alphabet env d
unfolding tree_within
node_walked p zero k alphabet env d e lt = absurd (omega arith)
node_walked p (suc below) k alphabet env d e lt =
    let same : below ≡ suc below - 1 = omega arith in
    ap (walked_node p (tree_within p below) k alphabet env) (layer d e) ∙ ap (λ l. walked_node p (tree_within p l) k alphabet env d) same

-- ---- operands, one after another

module _ (p : Content) (below : ℕ → List ℕ → Env → Net → Walked (Tree Proc)) where
  -- each alphabet when the operands before it are walked
  abbrev pub in_turn : List (Env × Expr × Net) → ℕ → Walked (Operands Proc)
  in_turn [] k = Ok none
  in_turn (w ∷ written) k = with_value (events_under p w.0 w.1) (λ alphabet. operand_first p below k alphabet w.0 w.2 (in_turn written))

  pub in_turn_more : (env : Env) (a : Expr) (n : Net) (written : List (Env × Expr × Net)) (k : ℕ) (alphabet : List ℕ) (tree : Tree Proc) (os : Operands Proc) → events_under p env a ≡ Ok alphabet
      → below k alphabet env n ≡ Ok tree → odd_event alphabet (joint (leaves tree)) ≡ None → in_turn written (k + length (leaves tree)) ≡ Ok os
      → in_turn ((env, a, n) ∷ written) k ≡ Ok (operand alphabet tree os)
  in_turn_more env a n written k alphabet tree os has made agrees rest =
      ap (λ o. with_value o (λ events. operand_first p below k events env n (in_turn written))) has ∙
      (ap (λ o. goes_on (goes_on o (nested k alphabet)) (λ t. goes_on (in_turn written (k + length (leaves t))) (λ os. Ok (operand alphabet t os)))) made ∙
      (ap (λ o. goes_on (agreed k tree o) (λ t. goes_on (in_turn written (k + length (leaves t))) (λ os. Ok (operand alphabet t os)))) agrees ∙
      ap (λ o. goes_on o (λ os. Ok (operand alphabet tree os))) rest))

  in_turn_each : (env : Env) (x : ℕ) (a : Expr) (n : Net) (atoms : List Atom) (k : ℕ) → each_operand p below env x a n atoms k ≡ in_turn (map (λ v. ((x, One v) ∷ env, a, n)) atoms) k
  in_turn_each env x a n [] k = refl
  in_turn_each env x a n (v ∷ vs) k = λ i. with_value (events_under p ((x, One v) ∷ env) a) (λ alphabet. operand_first p below k alphabet ((x, One v) ∷ env) n (λ j. in_turn_each env x a n vs j i))

  pub each_made : (env : Env) (alphabet : List ℕ) (x : ℕ) (s a : Expr) (n : Net) (atoms : List Atom) (k : ℕ) (os : Operands Proc) → set_under p env s ≡ Ok atoms
      → in_turn (map (λ v. ((x, One v) ∷ env, a, n)) atoms) k ≡ Ok os → walked_node p below k alphabet env (Net-F.Each x s a n) ≡ Ok (parallel os)
  each_made env alphabet x s a n atoms k os has is =
      ap (λ o. with_value o (λ vs. side_by_side p below (each_operand p below env x a n vs k))) has ∙ ap (side_by_side p below) (in_turn_each env x a n atoms k ∙ is)

  beside_value : (o : Outcome (List ℕ)) (next : List ℕ → Walked (Operands Proc)) → with_value o (λ events. side_by_side p below (next events)) ≡ side_by_side p below (with_value o next)
  beside_value (Ok events) next = refl
  beside_value (Err why) next = refl

  -- two operands, of which both alphabets are evaluated before one is walked
  pub pair_made : (env : Env) (alphabet : List ℕ) (n m : Net) (a b : Expr) (right : List ℕ) (k : ℕ) (os : Operands Proc) → events_under p env b ≡ Ok right
      → in_turn ((env, a, n) ∷ (env, b, m) ∷ []) k ≡ Ok os → walked_node p below k alphabet env (Net-F.Pair n a b m) ≡ Ok (parallel os)
  pair_made env alphabet n m a b right k os has is =
      let last : (j : ℕ) → in_turn ((env, b, m) ∷ []) j ≡ operand_first p below j right env m (λ _. Ok none) =
      λ j. ap (λ o. with_value o (λ events. operand_first p below j events env m (in_turn []))) has in
      let both : (left : List ℕ) → with_value (events_under p env b) (λ events. side_by_side p below (two_operands p below k env left n events m))
      ≡ side_by_side p below (operand_first p below k left env n (in_turn ((env, b, m) ∷ []))) =
      λ left. ap (λ o. with_value o (λ events. side_by_side p below (two_operands p below k env left n events m))) has ∙
      (λ i. side_by_side p below (operand_first p below k left env n (λ j. sym (last j) i))) in
      (λ i. with_value (events_under p env a) (λ left. both left i)) ∙
      (beside_value (events_under p env a) (λ left. operand_first p below k left env n (in_turn ((env, b, m) ∷ []))) ∙ ap (side_by_side p below) is)

second_has : (p : Content) (first : Env × Expr × Net) (env : Env) (b : Expr) (m : Net) (os : Operands Proc) → AreOperandsOf p (first ∷ (env, b, m) ∷ []) os → (right : List ℕ) × (events_under p env b ≡ Ok right)
second_has p first env b m os (one_operand worth events below (one_operand {atoms = atoms} {alphabet = right} worth' events' below' others)) = (right, events_given p env b right atoms worth' events')

-- ---- the walk makes the tree

mutual
  made : {p : Content} {env : Env} {alphabet : List ℕ} {n : Net} {tree : Tree Proc} (is : IsTreeOf p env alphabet n tree) (levels k : ℕ) → depth is ≤ levels → WellNested tree
      → k + length (leaves tree) ≤ MOST_COMPONENTS → tree_within p levels k alphabet env n ≡ Ok tree
  made {p} (component {env} {alphabet} {q}) levels k deep nests few = leaf_walked p levels k alphabet env q ∙ next_is k alphabet (proc_with (given_by env) q) (omega arith)
  made {p} (call {env} {alphabet} {d} {args} {vs} {n} {tree} {def} worth found network below) levels k deep nests few =
      let l : suc (depth below) ≤ levels = deep in
      node_walked p levels k alphabet env (Net-F.Call d args) (net.rolls-Call d args) (omega arith) ∙
      (ap (λ o. with_value o (λ ws. with_value (network_called (slice_get p.defs d) ws) (λ (c : Env × Net). tree_within p (levels - 1) k alphabet c.0 c.1))) worth ∙
      (ap (λ o. with_value o (λ (c : Env × Net). tree_within p (levels - 1) k alphabet c.0 c.1)) (network_given (slice_get p.defs d) vs def n found network) ∙
      made below (levels - 1) k (omega arith) nests few))
  made {p} (chosen {env} {alphabet} {c} {b} n m worth below) levels k deep nests few =
      let l : suc (depth below) ≤ levels = deep in
      node_walked p levels k alphabet env (Net-F.If c n m) (net.rolls-If c n m) (omega arith) ∙
      (ap (λ o. with_value o (λ b. tree_within p (levels - 1) k alphabet env (if b then n else m))) (truth_given p env c b worth) ∙
      made below (levels - 1) k (omega arith) nests few)
  made {p} (pair {env} {alphabet} {n} {m} {a} {b} {os} operands) levels k deep nests few =
      let l : suc (greatest_depth operands) ≤ levels = deep in
      let right = second_has p (env, a, n) env b m os operands in
      node_walked p levels k alphabet env (Net-F.Pair n a b m) (net.rolls-Pair n a b m) (omega arith) ∙
      pair_made p (tree_within p (levels - 1)) env alphabet n m a b right.0 k os right.1 (all_made operands (levels - 1) k (omega arith) nests few)
  made {p} (each {env} {alphabet} {x} {s} {a} {values} {os} n worth operands) levels k deep nests few =
      let l : suc (greatest_depth operands) ≤ levels = deep in
      node_walked p levels k alphabet env (Net-F.Each x s a n) (net.rolls-Each x s a n) (omega arith) ∙
      each_made p (tree_within p (levels - 1)) env alphabet x s a n values k os (set_given p env s values worth) (all_made operands (levels - 1) k (omega arith) nests few)

  all_made : {p : Content} {written : List (Env × Expr × Net)} {os : Operands Proc} (are : AreOperandsOf p written os) (levels k : ℕ) → greatest_depth are ≤ levels → OperandsWellNested os
      → k + length (leaves_of_operands os) ≤ MOST_COMPONENTS → in_turn p (tree_within p levels) written k ≡ Ok os
  all_made no_operand levels k deep nests few = refl
  all_made {p} (one_operand {env} {a} {n} {written} {atoms} {alphabet} {tree} {os} worth events below others) levels k deep nests few =
      let one : depth below ≤ levels = omega arith in
      let more : greatest_depth others ≤ levels = omega arith in
      let added : length (leaves tree ++ leaves_of_operands os) ≡ length (leaves tree) + length (leaves_of_operands os) = length-append (leaves tree) (leaves_of_operands os) in
      in_turn_more p (tree_within p levels) env a n written k alphabet tree os (events_given p env a alphabet atoms worth events)
      (made below levels k one nests.1 (omega arith))
      (none_odd alphabet (joint (leaves tree)) (λ e. nests.0 e ∙ sym (has-joint (leaves tree) e)))
      (all_made others levels (k + length (leaves tree)) more nests.2 (omega arith))

some_made : (tree : Tree Proc) (cs : List (Component Proc)) → 1 ≤ length cs → some_components tree cs ≡ Ok tree
some_made tree [] h = absurd (omega arith)
some_made tree (c ∷ cs) h = refl

pub spelled_is_walked : (p : Content) (tree : Tree Proc) → IsSpelledBy p tree → network_of p ≡ Ok tree
spelled_is_walked p tree is =
    let few : length (leaves tree) ≤ MOST_COMPONENTS = is.few in
    ap (λ o. goes_on o (λ t. some_components t (leaves t))) (made is.spelled 800 0 is.shallow is.nested (omega arith)) ∙ some_made tree (leaves tree) is.some
