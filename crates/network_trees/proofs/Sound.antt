-- What the walk of a network makes is the tree of that network, well nested and within the limits.
use Rattle.network_trees.proofs.Prelude.{◌≡◌, ℕ, zero, suc, ◌+◌, ◌<◌, ◌≤◌, Bool, true, false, if◌then◌else◌, Some, None, Ok, Err, List, [], ◌∷◌, ◌++◌, length, map, refl, subst, sym, ◌∙◌, arith, IfOk, Option, nat_lt, slice_get, ltb-true, length-append, Outcome, given_by, proc_with, bound_to, Env, Expr, Net, Net-F, out-Net, roll-Net, roll-out-Net, Proc, Content, Component, Tree, Operands, leaves, leaves_of_operands, leaf, parallel, none, operand, WellNested, OperandsWellNested, joint, odd_event, Walked, agreed, all_events, arguments_under, events_under, next_component, each_operand, goes_on, nested, network_called, network_of, operand_first, side_by_side, some_components, two_operands, tree_within, truth_under, walked_leaf, walked_node, with_value, Atom, Value, One, set_under, MOST_COMPONENTS, IsTreeOf, AreOperandsOf, IsSpelledBy, depth, greatest_depth}
use Rattle.network_trees.proofs.JointLemmas.{has-joint, same_members}
use Rattle.network_trees.proofs.Values.{events_found, network_found, set_found, truth_found}
use Rattle.network_trees.specs.Spelled as rule
use Rattle.csp_program.specs.declared.networks.Net.TheVariants as net
use Rattle.network_trees.specs.declared.fault.LayoutFault.TheVariants as fault

-- ---- what holds of what a step makes

if_goes_on : {A B : Type 0} (first : Walked A) (next : A → Walked B) (P : A → Type 0) (Q : B → Type 0) → IfOk first P → ((a : A) → P a → IfOk (next a) Q) → IfOk (goes_on first next) Q
if_goes_on (Ok a) next P Q is step = step a is
if_goes_on (Err f) next P Q is step = tt

if_value : {A B : Type 0} (first : Outcome A) (next : A → Walked B) (Q : B → Type 0) → ((a : A) → first ≡ Ok a → IfOk (next a) Q) → IfOk (with_value first next) Q
if_value (Ok a) next Q step = step a refl
if_value (Err why) next Q step = tt

if_so : {A : Type 0} (made : Walked A) (P Q : A → Type 0) → ((a : A) → P a → Q a) → IfOk made P → IfOk made Q
if_so (Ok a) P Q so is = so a is
if_so (Err f) P Q so is = tt

-- ---- trees and operands

-- the tree of a network that k components come before, where so many nodes may be entered, one inside another
pub record IsMade (p : Content) (levels k : ℕ) (env : Env) (alphabet : List ℕ) (n : Net) (tree : Tree Proc) : Type 0 where
  pub spelled : IsTreeOf p env alphabet n tree
  pub shallow : depth spelled ≤ levels
  pub nesting : WellNested tree
  pub few : k + length (leaves tree) ≤ MOST_COMPONENTS

-- the same of operands
record AreMade (p : Content) (levels k : ℕ) (written : List (Env × Expr × Net)) (os : Operands Proc) : Type 0 where
  spelled : AreOperandsOf p written os
  shallow : greatest_depth spelled ≤ levels
  nesting : OperandsWellNested os
  few : k + length (leaves_of_operands os) ≤ MOST_COMPONENTS

makes_component : (p : Content) (levels : ℕ) (env : Env) (alphabet : List ℕ) (q : Proc) (k : ℕ)
    → IfOk (next_component k alphabet (proc_with (given_by env) q)) (IsMade p levels k env alphabet (net.Leaf q))
makes_component p levels env alphabet q k = by_room (nat_lt k MOST_COMPONENTS) refl
  where
    by_room : (b : Bool) → nat_lt k MOST_COMPONENTS ≡ b
        → IfOk (if b then Ok (leaf (record { alphabet = alphabet; term = proc_with (given_by env) q })) else Err fault.ComponentLimit) (IsMade p levels k env alphabet (net.Leaf q))
    by_room true h = let lt : k < MOST_COMPONENTS = ltb-true k MOST_COMPONENTS h in record { spelled = rule.component; shallow = omega arith; nesting = tt; few = omega arith }
    by_room false h = tt

module _ (p : Content) (levels : ℕ) where
  abbrev MakesOperands : List (Env × Expr × Net) → (ℕ → Walked (Operands Proc)) → Type 0
  MakesOperands written walk = (k : ℕ) → k ≤ MOST_COMPONENTS → IfOk (walk k) (AreMade p levels k written)

  -- an operand that was found to agree with its alphabet
  record Agrees (k : ℕ) (env : Env) (alphabet : List ℕ) (n : Net) (tree : Tree Proc) : Type 0 where
    is : IsMade p levels k env alphabet n tree
    agrees : odd_event alphabet (joint (leaves tree)) ≡ None

  makes_nested : (k : ℕ) (env : Env) (alphabet : List ℕ) (n : Net) (tree : Tree Proc) → IsMade p levels k env alphabet n tree → IfOk (nested k alphabet tree) (Agrees k env alphabet n)
  makes_nested k env alphabet n tree is = by_event (odd_event alphabet (joint (leaves tree))) refl
    where
      by_event : (odd : Option ℕ) → odd_event alphabet (joint (leaves tree)) ≡ odd → IfOk (agreed k tree odd) (Agrees k env alphabet n)
      by_event None h = record { is = is; agrees = h }
      by_event (Some e) h = tt

  with_first : (k : ℕ) (env : Env) (a : Expr) (n : Net) (written : List (Env × Expr × Net)) (alphabet : List ℕ) (tree : Tree Proc) (others : Operands Proc)
      → events_under p env a ≡ Ok alphabet → Agrees k env alphabet n tree → AreMade p levels (k + length (leaves tree)) written others
      → AreMade p levels k ((env, a, n) ∷ written) (operand alphabet tree others)
  with_first k env a n written alphabet tree others has first rest =
      let found = events_found p env a alphabet has in
      let added : length (leaves tree ++ leaves_of_operands others) ≡ length (leaves tree) + length (leaves_of_operands others) = length-append (leaves tree) (leaves_of_operands others) in
      let few : k + length (leaves tree) + length (leaves_of_operands others) ≤ MOST_COMPONENTS = rest.few in
      let one : depth first.is.spelled ≤ levels = first.is.shallow in
      let more : greatest_depth rest.spelled ≤ levels = rest.shallow in
      record {
        spelled = rule.one_operand found.is found.events first.is.spelled rest.spelled;
        shallow = omega arith;
        nesting = ((λ e. same_members alphabet (joint (leaves tree)) first.agrees e ∙ has-joint (leaves tree) e), first.is.nesting, rest.nesting);
        few = omega arith;
      }

  makes_none : MakesOperands [] (λ k. Ok none)
  makes_none k fits = record { spelled = rule.no_operand; shallow = omega arith; nesting = tt; few = omega arith }

  module _ (below : ℕ → List ℕ → Env → Net → Walked (Tree Proc))
      (sound : (alphabet : List ℕ) (env : Env) (n : Net) (k : ℕ) → k ≤ MOST_COMPONENTS → IfOk (below k alphabet env n) (IsMade p levels k env alphabet n)) where
    makes_first : (env : Env) (a : Expr) (n : Net) (written : List (Env × Expr × Net)) (alphabet : List ℕ) (others : ℕ → Walked (Operands Proc)) → events_under p env a ≡ Ok alphabet
        → MakesOperands written others → MakesOperands ((env, a, n) ∷ written) (λ k. operand_first p below k alphabet env n others)
    makes_first env a n written alphabet others has rest k fits =
        if_goes_on (goes_on (below k alphabet env n) (nested k alphabet)) (λ tree. goes_on (others (k + length (leaves tree))) (λ os. Ok (operand alphabet tree os))) (Agrees k env alphabet n) (AreMade p levels k ((env, a, n) ∷ written))
        (if_goes_on (below k alphabet env n) (nested k alphabet) (IsMade p levels k env alphabet n) (Agrees k env alphabet n) (sound alphabet env n k fits) (makes_nested k env alphabet n))
        (λ tree first. if_goes_on (others (k + length (leaves tree))) (λ os. Ok (operand alphabet tree os)) (AreMade p levels (k + length (leaves tree)) written) (AreMade p levels k ((env, a, n) ∷ written))
        (rest (k + length (leaves tree)) first.is.few) (λ os are. with_first k env a n written alphabet tree os has first are))

    makes_each : (env : Env) (x : ℕ) (a : Expr) (n : Net) (atoms : List Atom) → MakesOperands (map (λ v. ((x, One v) ∷ env, a, n)) atoms) (each_operand p below env x a n atoms)
    makes_each env x a n [] k fits = makes_none k fits
    makes_each env x a n (v ∷ vs) k fits =
        if_value (events_under p ((x, One v) ∷ env) a) _ (AreMade p levels k (map (λ v. ((x, One v) ∷ env, a, n)) (v ∷ vs))) (λ alphabet has.
        makes_first ((x, One v) ∷ env) a n (map (λ v. ((x, One v) ∷ env, a, n)) vs) alphabet (each_operand p below env x a n vs) has (makes_each env x a n vs) k fits)

    makes_called : (k : ℕ) (env : Env) (alphabet : List ℕ) (d : ℕ) (args : List Expr) (vs : List Value) (called : Env × Net) → k ≤ MOST_COMPONENTS → arguments_under p env args ≡ Ok vs
        → network_called (slice_get p.defs d) vs ≡ Ok called → IfOk (below k alphabet called.0 called.1) (IsMade p (suc levels) k env alphabet (net.Call d args))
    makes_called k env alphabet d args vs called fits worth is =
        let found = network_found (slice_get p.defs d) vs called is in
        subst (λ (c : Env × Net). IfOk (below k alphabet c.0 c.1) (IsMade p (suc levels) k env alphabet (net.Call d args))) found.made
        (if_so (below k alphabet (bound_to found.def.params vs) found.net) (IsMade p levels k (bound_to found.def.params vs) alphabet found.net) (IsMade p (suc levels) k env alphabet (net.Call d args)) (λ tree made.
        let l : depth made.spelled ≤ levels = made.shallow in
        record { spelled = rule.call worth found.is found.body made.spelled; shallow = omega arith; nesting = made.nesting; few = made.few })
        (sound alphabet (bound_to found.def.params vs) found.net k fits))

    makes_chosen : (k : ℕ) (env : Env) (alphabet : List ℕ) (c : Expr) (n m : Net) (b : Bool) → k ≤ MOST_COMPONENTS → truth_under p env c ≡ Ok b
        → IfOk (below k alphabet env (if b then n else m)) (IsMade p (suc levels) k env alphabet (net.If c n m))
    makes_chosen k env alphabet c n m b fits worth =
        if_so (below k alphabet env (if b then n else m)) (IsMade p levels k env alphabet (if b then n else m)) (IsMade p (suc levels) k env alphabet (net.If c n m)) (λ tree made.
        let l : depth made.spelled ≤ levels = made.shallow in
        record { spelled = rule.chosen {c = c} {b = b} n m (truth_found p env c b worth) made.spelled; shallow = omega arith; nesting = made.nesting; few = made.few })
        (sound alphabet env (if b then n else m) k fits)

    makes_pair : (k : ℕ) (env : Env) (alphabet : List ℕ) (n m : Net) (a b : Expr) (left right : List ℕ) → k ≤ MOST_COMPONENTS → events_under p env a ≡ Ok left → events_under p env b ≡ Ok right
        → IfOk (side_by_side p below (two_operands p below k env left n right m)) (IsMade p (suc levels) k env alphabet (net.Pair n a b m))
    makes_pair k env alphabet n m a b left right fits is also =
        if_goes_on (two_operands p below k env left n right m) (λ os. Ok (parallel os)) (AreMade p levels k ((env, a, n) ∷ (env, b, m) ∷ [])) (IsMade p (suc levels) k env alphabet (net.Pair n a b m))
        (makes_first env a n ((env, b, m) ∷ []) left (λ j. operand_first p below j right env m (λ _. Ok none)) is (makes_first env b m [] right (λ _. Ok none) also makes_none) k fits)
        (λ os are. let l : greatest_depth are.spelled ≤ levels = are.shallow in record { spelled = rule.pair are.spelled; shallow = omega arith; nesting = are.nesting; few = are.few })

    makes_all : (k : ℕ) (env : Env) (alphabet : List ℕ) (x : ℕ) (s a : Expr) (n : Net) (atoms : List Atom) → k ≤ MOST_COMPONENTS → set_under p env s ≡ Ok atoms
        → IfOk (side_by_side p below (each_operand p below env x a n atoms k)) (IsMade p (suc levels) k env alphabet (net.Each x s a n))
    makes_all k env alphabet x s a n atoms fits worth =
        if_goes_on (each_operand p below env x a n atoms k) (λ os. Ok (parallel os)) (AreMade p levels k (map (λ v. ((x, One v) ∷ env, a, n)) atoms)) (IsMade p (suc levels) k env alphabet (net.Each x s a n))
        (makes_each env x a n atoms k fits)
        (λ os are. let l : greatest_depth are.spelled ≤ levels = are.shallow in record { spelled = rule.each n (set_found p env s atoms worth) are.spelled; shallow = omega arith; nesting = are.nesting; few = are.few })

    -- what is made of a form is made of the network that has it
    has_form : (k : ℕ) (env : Env) (alphabet : List ℕ) (d : Net-F Net) (n : Net) → roll-Net d ≡ n
        → IfOk (walked_node p below k alphabet env d) (IsMade p (suc levels) k env alphabet n) → IfOk (walked_node p below k alphabet env d) (IsMade p (suc levels) k env alphabet (roll-Net d))
    has_form k env alphabet d n e = subst (λ m. IfOk (walked_node p below k alphabet env d) (IsMade p (suc levels) k env alphabet m)) (sym e)

    makes_node : (env : Env) (alphabet : List ℕ) (d : Net-F Net) (k : ℕ) → k ≤ MOST_COMPONENTS → IfOk (walked_node p below k alphabet env d) (IsMade p (suc levels) k env alphabet (roll-Net d))
    makes_node env alphabet (Net-F.Leaf q) k fits = has_form k env alphabet (Net-F.Leaf q) (net.Leaf q) (net.rolls-Leaf q) (makes_component p (suc levels) env alphabet q k)
    makes_node env alphabet (Net-F.Call d args) k fits =
        let Q = IsMade p (suc levels) k env alphabet (net.Call d args) in
        has_form k env alphabet (Net-F.Call d args) (net.Call d args) (net.rolls-Call d args)
        (if_value (arguments_under p env args) _ Q (λ vs worth. if_value (network_called (slice_get p.defs d) vs) _ Q (λ (called : Env × Net) is. makes_called k env alphabet d args vs called fits worth is)))
    makes_node env alphabet (Net-F.If c n m) k fits =
        has_form k env alphabet (Net-F.If c n m) (net.If c n m) (net.rolls-If c n m)
        (if_value (truth_under p env c) _ (IsMade p (suc levels) k env alphabet (net.If c n m)) (λ b worth. makes_chosen k env alphabet c n m b fits worth))
    makes_node env alphabet (Net-F.Pair n a b m) k fits =
        let Q = IsMade p (suc levels) k env alphabet (net.Pair n a b m) in
        has_form k env alphabet (Net-F.Pair n a b m) (net.Pair n a b m) (net.rolls-Pair n a b m)
        (if_value (events_under p env a) _ Q (λ left is. if_value (events_under p env b) _ Q (λ right also. makes_pair k env alphabet n m a b left right fits is also)))
    makes_node env alphabet (Net-F.Each x s a n) k fits =
        has_form k env alphabet (Net-F.Each x s a n) (net.Each x s a n) (net.rolls-Each x s a n)
        (if_value (set_under p env s) _ (IsMade p (suc levels) k env alphabet (net.Each x s a n)) (λ atoms worth. makes_all k env alphabet x s a n atoms fits worth))

makes_leaf : (p : Content) (env : Env) (alphabet : List ℕ) (d : Net-F Net) (k : ℕ) → IfOk (walked_leaf k alphabet env d) (IsMade p 0 k env alphabet (roll-Net d))
makes_leaf p env alphabet (Net-F.Leaf q) k =
    subst (λ n. IfOk (walked_leaf k alphabet env (Net-F.Leaf q)) (IsMade p 0 k env alphabet n)) (sym (net.rolls-Leaf q)) (makes_component p 0 env alphabet q k)
makes_leaf p env alphabet (Net-F.Call d args) k = tt
makes_leaf p env alphabet (Net-F.If c n m) k = tt
makes_leaf p env alphabet (Net-F.Pair n a b m) k = tt
makes_leaf p env alphabet (Net-F.Each x s a n) k = tt

makes_tree : (p : Content) (levels : ℕ) (alphabet : List ℕ) (env : Env) (n : Net) (k : ℕ) → k ≤ MOST_COMPONENTS → IfOk (tree_within p levels k alphabet env n) (IsMade p levels k env alphabet n)
unfolding tree_within
makes_tree p zero alphabet env n k fits = subst (λ m. IfOk (walked_leaf k alphabet env (out-Net n)) (IsMade p 0 k env alphabet m)) (roll-out-Net n) (makes_leaf p env alphabet (out-Net n) k)
makes_tree p (suc levels) alphabet env n k fits =
    subst (λ m. IfOk (walked_node p (tree_within p levels) k alphabet env (out-Net n)) (IsMade p (suc levels) k env alphabet m)) (roll-out-Net n)
    (makes_node p levels (tree_within p levels) (makes_tree p levels) env alphabet (out-Net n) k fits)

-- a network has a component
has_some : (p : Content) (tree : Tree Proc) (cs : List (Component Proc)) → leaves tree ≡ cs → IsMade p 800 0 [] (all_events p) p.root tree → IfOk (some_components tree cs) (IsSpelledBy p)
has_some p tree [] is made = tt
has_some p tree (c ∷ cs) is made =
    let few : 0 + length (leaves tree) ≤ MOST_COMPONENTS = made.few in
    record {
      spelled = made.spelled;
      nested = made.nesting;
      some = subst (λ ds. 1 ≤ length ds) (sym is) (omega arith);
      few = omega arith;
      shallow = made.shallow;
    }

pub walk_is_spelled : (p : Content) (tree : Tree Proc) → network_of p ≡ Ok tree → IsSpelledBy p tree
walk_is_spelled p tree h =
    subst (λ made. IfOk made (IsSpelledBy p)) h
    (if_goes_on (tree_within p 800 0 (all_events p) [] p.root) (λ t. some_components t (leaves t)) (IsMade p 800 0 [] (all_events p) p.root) _
    (makes_tree p 800 (all_events p) [] p.root 0 (omega arith)) (λ t. has_some p t (leaves t) refl))
