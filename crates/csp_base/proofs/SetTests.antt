-- What a walk that found a member, or none, says of the tests on lists.
use Rattle.csp_base.proofs.Prelude.{◌≡◌, ℕ, Bool, true, false, not, ◌&&◌, List, refl, sym, and_parts, not-true, both_ways, is_subset_of, meets_of, OnTrue, OnFalse, has}
use Rattle.csp_base.proofs.Rising.{is_subset_of_from_members, not_is_subset_of_from_member, meets_of_from_member, not_meets_of_from_members}

pub meets_of_from_answer : (b : Bool) (xs ys : List ℕ) → OnTrue b ((x : ℕ) × ((has xs x && has ys x) ≡ true)) → OnFalse b ((x : ℕ) → (has xs x && has ys x) ≡ false) → b ≡ meets_of xs ys
meets_of_from_answer true xs ys h g =
    let both = and_parts (has xs h.0) (has ys h.0) h.1 in
    sym (meets_of_from_member xs ys h.0 both.0 both.1)
meets_of_from_answer false xs ys h g = sym (not_meets_of_from_members xs ys g)

in_second : (a b : Bool) → (a && not b) ≡ false → a ≡ true → b ≡ true
in_second true true h e = refl
in_second true false h e = sym h
in_second false b h e = absurd (both_ways false refl e)

pub is_subset_of_from_answer : (b : Bool) (xs ys : List ℕ) → OnTrue b ((x : ℕ) × ((has xs x && not (has ys x)) ≡ true)) → OnFalse b ((x : ℕ) → (has xs x && not (has ys x)) ≡ false) → not b ≡ is_subset_of xs ys
is_subset_of_from_answer true xs ys h g =
    let both = and_parts (has xs h.0) (not (has ys h.0)) h.1 in
    sym (not_is_subset_of_from_member xs ys h.0 both.0 (not-true (has ys h.0) both.1))
is_subset_of_from_answer false xs ys h g = sym (is_subset_of_from_members xs ys (λ x e. in_second (has xs x) (has ys x) (g x) e))
