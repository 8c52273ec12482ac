-- Runs of a table with one event more, the form of a node's steps, and how many alphabets share an event.
use Rattle.std.proofs.Common.{◌≡◌, ℕ, zero, suc, ◌+◌, List, [], ◌∷◌, ◌++◌, true, false, refl}
use Rattle.std.proofs.lemmas.Bool.{and_from, and_parts, cond-true, cond-false}
use Rattle.csp_base.specs.Members.{has}
use Rattle.csp_tables.specs.Prelude.{NodesHaveForm, StepsHaveForm, sharers, Node, node_at, node_after, is_possible, is_run, end_of}

pub run_push : (table : List Node) (n : ℕ) (s : List ℕ) (e : ℕ) → is_run table n s ≡ true → is_possible (node_at table (end_of table n s)).next e ≡ true → is_run table n (s ++ e ∷ []) ≡ true
run_push table n [] e h k = and_from _ _ k refl
run_push table n (x ∷ s) e h k =
    let p = and_parts (is_possible (node_at table n).next x) (is_run table (node_after table n x) s) h in
    and_from _ _ p.0 (run_push table (node_after table n x) s e p.1 k)

pub end_push : (table : List Node) (n : ℕ) (s : List ℕ) (e : ℕ) → end_of table n (s ++ e ∷ []) ≡ node_after table (end_of table n s) e
end_push table n [] e = refl
end_push table n (x ∷ s) e = end_push table (node_after table n x) s e

pub node_form : (a : List ℕ) (m : ℕ) (nodes : List Node) (n : ℕ) → NodesHaveForm a m nodes → StepsHaveForm a m (node_at nodes n).next
node_form a m [] n form = tt
node_form a m (node ∷ nodes) zero form = form.0
node_form a m (node ∷ nodes) (suc n) form = node_form a m nodes n form.2

pub sharers_own : (a : List ℕ) (others : List (List ℕ)) (e : ℕ) → has a e ≡ true → sharers (a ∷ others) e ≡ sharers others e + 1
sharers_own a others e h = cond-true (has a e) (sharers others e + 1) (sharers others e) h

pub sharers_other : (a : List ℕ) (others : List (List ℕ)) (e : ℕ) → has a e ≡ false → sharers (a ∷ others) e ≡ sharers others e
sharers_other a others e h = cond-false (has a e) (sharers others e + 1) (sharers others e) h
