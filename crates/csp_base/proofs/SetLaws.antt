-- Laws of sets of events for callers, over strictly rising lists of numbers.
use Rattle.csp_base.proofs.Prelude.{◌≡◌, ℕ, true, not, ◌&&◌, eqb, List, [], ◌∷◌, refl, inl, inr, ◌∙◌, arith, false≢true, or_cases, or_left, or_right, eq-eqb, with_member, union_of, set_of, inter_of, diff_of, meets_of, IsStrictlyIncreasing, and_comm, has}
use Rattle.csp_base.proofs.Rising.{rises_from_increasing, increasing_from_rises, same_members, has-with_member, RisesFrom-with_member, RisesFrom-union_of, has-filter, is_subset_of_from_members, member_of_superset, meets_of_from_member, not_meets_of_from_members}
pub use Rattle.csp_base.proofs.Rising.{has-append, has-with_member, has-union_of, is_subset_of_from_members, not_is_subset_of_from_member, member_of_superset, meets_of_from_member, not_meets_of_from_members}

-- extensionality: sets with the same members are equal
pub same_set : (xs ys : List ℕ) → IsStrictlyIncreasing xs → IsStrictlyIncreasing ys → ((x : ℕ) → has xs x ≡ has ys x) → xs ≡ ys
same_set xs ys r s = same_members 0 0 xs ys (rises_from_increasing xs r) (rises_from_increasing ys s)

-- ---- members of a result

pub has-inter_of : (xs ys : List ℕ) (x : ℕ) → has (inter_of xs ys) x ≡ (has xs x && has ys x)
has-inter_of xs ys x = has-filter (has ys) xs x ∙ and_comm (has ys x) (has xs x)

pub has-diff_of : (xs ys : List ℕ) (x : ℕ) → has (diff_of xs ys) x ≡ (has xs x && not (has ys x))
has-diff_of xs ys x = has-filter (λ z. not (has ys z)) xs x ∙ and_comm (not (has ys x)) (has xs x)

-- ---- each result rises

pub increasing-with_member : (x : ℕ) (xs : List ℕ) → IsStrictlyIncreasing xs → IsStrictlyIncreasing (with_member x xs)
increasing-with_member x xs r = increasing_from_rises 0 (with_member x xs) (RisesFrom-with_member 0 x xs (omega arith) (rises_from_increasing xs r))

pub increasing-union_of : (xs ys : List ℕ) → IsStrictlyIncreasing ys → IsStrictlyIncreasing (union_of xs ys)
increasing-union_of xs ys r = increasing_from_rises 0 (union_of xs ys) (RisesFrom-union_of xs ys (rises_from_increasing ys r))

pub increasing-set_of : (xs : List ℕ) → IsStrictlyIncreasing (set_of xs)
increasing-set_of xs = increasing_from_rises 0 (set_of xs) (RisesFrom-union_of xs [] tt)

-- ---- a member in common

pub common_member : (xs ys : List ℕ) → meets_of xs ys ≡ true → (x : ℕ) × (has xs x ≡ true) × (has ys x ≡ true)
common_member [] ys e = absurd (false≢true e)
common_member (y ∷ xs) ys e =
    elim (or_cases (has ys y) (meets_of xs ys) e) [
      | inl h ↦ (y, or_left (eqb y y) (has xs y) (eq-eqb y y refl), h)
      | inr h ↦ let rest = common_member xs ys h in (rest.0, or_right (eqb y rest.0) (has xs rest.0) rest.1, rest.2)
    ]
