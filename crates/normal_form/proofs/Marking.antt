-- Acceptances numbered in the order in which they are first seen.
use Rattle.normal_form.proofs.Prelude.{◌≡◌, ℕ, ◌<◌, Bool, true, nat_eq, List, [], ◌∷◌, length, get_or, refl, ap, ◌∙◌, and_from, eqb-true, get_or_default, Node, node_at, IsNumbered, keys_equal, numbers_equal, AreMarksOf, pointwise, IsExact-pointwise, same_list}

-- equality of lists of sets, as a test
abbrev pub same_sets : List (List ℕ) → List (List ℕ) → Bool
same_sets = pointwise (pointwise nat_eq)

pub same_itself : (xs : List (List ℕ)) → same_sets xs xs ≡ true
same_itself [] = refl
same_itself (x ∷ xs) = and_from (pointwise nat_eq x x) (pointwise (pointwise nat_eq) xs xs) (same_list x) (same_itself xs)

abbrev pub accept_at : List Node → ℕ → List (List ℕ)
accept_at nodes k = (node_at nodes k).accept

pub all_marked : (nodes : List Node) (n : ℕ) (seen : List (List (List ℕ))) (marks : List ℕ) → n ≡ length nodes → IsNumbered same_sets (accept_at nodes) n seen marks → AreMarksOf nodes marks
all_marked nodes n seen marks whole s = record {
  one_each = s.one_each ∙ whole;
  exact = λ i j a b. (
    λ e. keys_equal same_sets (IsExact-pointwise (pointwise nat_eq) (IsExact-pointwise nat_eq eqb-true)) [] (accept_at nodes) n seen marks s i j (rw whole a) (rw whole b) e,
    λ e. numbers_equal same_sets (accept_at nodes) n seen marks s i j (rw whole a) (rw whole b) e,
  );
}

-- the acceptances of the node that a loop reads
pub item_read : (nodes : List Node) (n : ℕ) (node : Node) → n < length nodes → node ≡ get_or nodes n node → node.accept ≡ accept_at nodes n
item_read nodes n node below is = ap (λ (m : Node). m.accept) (is ∙ get_or_default nodes n node (record { next = []; accept = [] }) below)
