-- The alphabets of components together.
use Rattle.network_trees.proofs.Prelude.{◌≡◌, ℕ, Bool, true, false, not, eqb, false≢true, eq-eqb, or_left, ◌||◌, ◌&&◌, Some, None, List, [], ◌∷◌, refl, ap, sym, ◌∙◌, arith, nat_tests, common_steps, Option, has, diff_of, has-diff_of, has-union_of, in_some_component, Component, first_event, joint, lesser, odd_event}

pub has-joint : {T : Type 0} (cs : List (Component T)) (e : ℕ) → has (joint cs) e ≡ in_some_component cs e
has-joint [] e = refl
has-joint (c ∷ cs) e = has-union_of c.alphabet (joint cs) e ∙ ap (λ b. has c.alphabet e || b) (has-joint cs e)

no_lesser : (x y : Option ℕ) → lesser x y ≡ None → (x ≡ None) × (y ≡ None)
no_lesser None y h = (refl, h)
no_lesser (Some e) None h = absurd cc
no_lesser (Some e) (Some d) h = absurd cc

-- no event of the first is missing in the second
none_missing : (xs ys : List ℕ) (e : ℕ) → first_event (diff_of xs ys) ≡ None → (has xs e && not (has ys e)) ≡ false
none_missing xs ys e h = let none : has (diff_of xs ys) e ≡ false = grind (arith, common_steps) in sym (has-diff_of xs ys e) ∙ none

-- where no event is odd, the sets have the same members
pub same_members : (xs ys : List ℕ) → odd_event xs ys ≡ None → (e : ℕ) → has xs e ≡ has ys e
same_members xs ys h e =
    let none = no_lesser (first_event (diff_of xs ys)) (first_event (diff_of ys xs)) h in
    let one = none_missing xs ys e none.0 in
    let other = none_missing ys xs e none.1 in
    grind (arith, nat_tests)

-- no event is the first of a set that has none
first_none : (xs : List ℕ) → ((e : ℕ) → has xs e ≡ false) → first_event xs ≡ None
first_none [] h = refl
first_none (x ∷ xs) h = absurd (false≢true (sym (h x) ∙ or_left (eqb x x) (has xs x) (eq-eqb x x refl)))

none_apart : (xs ys : List ℕ) → ((e : ℕ) → has xs e ≡ has ys e) → (e : ℕ) → has (diff_of xs ys) e ≡ false
none_apart xs ys same e = has-diff_of xs ys e ∙ (ap (λ b. b && not (has ys e)) (same e) ∙ never (has ys e))
  where
    never : (b : Bool) → (b && not b) ≡ false
    never true = refl
    never false = refl

-- where sets have the same members, no event is odd
pub none_odd : (xs ys : List ℕ) → ((e : ℕ) → has xs e ≡ has ys e) → odd_event xs ys ≡ None
none_odd xs ys same =
    ap (λ o. lesser o (first_event (diff_of ys xs))) (first_none (diff_of xs ys) (none_apart xs ys same)) ∙ first_none (diff_of ys xs) (none_apart ys xs (λ e. sym (same e)))
