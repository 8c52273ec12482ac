-- The sums of the bounds of components, one after another.
use Rattle.hidden_bounds.proofs.Prelude.{◌≡◌, ℕ, ◌+◌, ◌^◌, ◌<◌, ◌≤◌, Bool, true, false, if◌then◌else◌, List, [], ◌∷◌, Some, slice_get, length, take, drop, get_or, ◌++◌, inl, IfNone, IfSome, Option, None, refl, sym, ap, ap₂, subst, ◌∙◌, arith, take-take, same_Some, slice_get-get_or, inter_of, meets_of, Component, Taken, bound_over, hidden_bound, share_hidden, shared_bounds, PassesAt, AreBounds, IsNextSum, bound_at, sum_before, AreWithin, alphabet_at, taken_in, Placed}
use Rattle.hidden_bounds.proofs.Passing.{bound_grows, passes_grows}
use Rattle.hidden_bounds.proofs.Taken.{next_taken, shares_of, taken_split}

if_le : (b : Bool) (n : ℕ) → (if b then n else 0) ≤ n
if_le true n = omega arith
if_le false n = omega arith

sums : (a b c d : ℕ) → a ≤ b → c ≤ d → a + c ≤ b + d
sums a b c d h k = omega arith

shared_le : (hidden a : List ℕ) (ts : List Taken) → shared_bounds hidden a ts ≤ hidden_bound hidden ts
shared_le hidden a [] = omega arith
shared_le hidden a (t ∷ ts) = sums _ (bound_over hidden ts t) _ (hidden_bound hidden ts) (if_le (share_hidden hidden a t.alphabet) (bound_over hidden ts t)) (shared_le hidden a ts)

pub within_read : (count : ℕ) (order : List Placed) (k : ℕ) (d : Placed) → AreWithin count order → k < length order → (get_or order k d).part < count
within_read count order k d within below = within k (get_or order k d) (slice_get-get_or order k d below)

module _ {T : Type 0} (hidden : List ℕ) (cs : List (Component T)) (order : List Placed) where
  -- the sum with one more
  pub sum_next : (k : ℕ) (p d : Placed) → k < length order → p ≡ get_or order k d → sum_before hidden cs order (k + 1) ≡ bound_at hidden cs order k p + sum_before hidden cs order k
  sum_next k p d within is = ap (hidden_bound hidden) (next_taken cs order k d within) ∙ ap (λ (x : Placed). bound_at hidden cs order k x + sum_before hidden cs order k) (sym is)

  pub sum_le : (k n : ℕ) → k ≤ n → sum_before hidden cs order k ≤ sum_before hidden cs order n
  sum_le k n h =
      let few : take k (take n order) ≡ take k order = take-take k n order h in
      let grown : taken_in cs (take n order) ≡ taken_in cs (drop k (take n order)) ++ taken_in cs (take k order) =
      taken_split cs k (take n order) ∙ ap (λ xs. taken_in cs (drop k (take n order)) ++ taken_in cs xs) few in
      subst (λ ts. sum_before hidden cs order k ≤ hidden_bound hidden ts) (sym grown) (bound_grows hidden (taken_in cs (drop k (take n order))) (taken_in cs (take k order)))

  -- one more of the shared bounds
  pub next_shared : (bounds a events : List ℕ) (k total number : ℕ) (p d : Placed) (counts : Bool) → AreBounds hidden cs order bounds → length bounds ≤ length order → k < length bounds → p ≡ get_or order k d
      → events ≡ inter_of hidden a → counts ≡ meets_of (alphabet_at cs p.part) events → number ≡ (if counts then get_or bounds k 0 else 0)
      → total ≡ shared_bounds hidden a (taken_in cs (take k order)) → total + number ≡ shared_bounds hidden a (taken_in cs (take (k + 1) order))
  next_shared bounds a events k total number p d counts are fewer within is events_are counts_is number_is so_far =
      let below : k < length order = omega arith in
      let at : slice_get order k ≡ Some p = slice_get-get_or order k d below ∙ ap Some (sym is) in
      let shares : counts ≡ share_hidden hidden a (alphabet_at cs p.part) = counts_is ∙ ap (meets_of (alphabet_at cs p.part)) events_are ∙ shares_of hidden a (alphabet_at cs p.part) in
      let bound : get_or bounds k 0 ≡ bound_at hidden cs order k p = are k p within at in
      let one : number ≡ (if share_hidden hidden a (alphabet_at cs p.part) then bound_at hidden cs order k p else 0) = number_is ∙ ap₂ (λ b n. if b then n else 0) shares bound in
      let next : shared_bounds hidden a (taken_in cs (take (k + 1) order))
      ≡ (if share_hidden hidden a (alphabet_at cs p.part) then bound_at hidden cs order k p else 0) + shared_bounds hidden a (taken_in cs (take k order)) =
      ap (shared_bounds hidden a) (next_taken cs order k d below) ∙ ap (λ (x : Placed). (if share_hidden hidden a (alphabet_at cs x.part) then bound_at hidden cs order k x else 0) + shared_bounds hidden a (taken_in cs (take k order))) (sym is) in
      omega arith

  pub shared_fits : (a : List ℕ) (k n : ℕ) → k ≤ n → shared_bounds hidden a (taken_in cs (take k order)) ≤ sum_before hidden cs order n
  shared_fits a k n h =
      let le : shared_bounds hidden a (taken_in cs (take k order)) ≤ sum_before hidden cs order k = shared_le hidden a (taken_in cs (take k order)) in
      let more : sum_before hidden cs order k ≤ sum_before hidden cs order n = sum_le k n h in
      omega arith

-- ---- the next sum

pub none_then : {A : Type 0} (found : Option A) (P Q : Type 0) → IfNone found P → (P → Q) → IfNone found Q
none_then None P Q p f = f p
none_then (Some x) P Q p f = tt

pub some_then : {A : Type 0} (found : Option A) (P Q : A → Type 0) → IfSome found P → ((x : A) → P x → Q x) → IfSome found Q
some_then None P Q p f = tt
some_then (Some x) P Q p f = f x p

more_than : (limit bound total next : ℕ) → limit ≤ bound → next ≡ bound + total → limit ≤ next
more_than limit bound total next h is = omega arith

sum_than : (limit bound own total so_far next : ℕ) → limit ≤ total + bound → bound ≡ own → total ≡ so_far → next ≡ own + so_far → limit ≤ next
sum_than limit bound own total so_far next h same here is = omega arith

sum_is : (bound own total so_far sum next : ℕ) → bound ≡ own → total ≡ so_far → sum ≡ total + bound → next ≡ own + so_far → sum ≡ next
sum_is bound own total so_far sum next same here made is = omega arith

module _ {T : Type 0} (hidden : List ℕ) (cs : List (Component T)) (order : List Placed) (k : ℕ) (d : Placed) (within : k < length order)
    (total : ℕ) (so_far : total ≡ sum_before hidden cs order k) where
  abbrev here : Placed
  here = get_or order k d

  at_here : slice_get order k ≡ Some here
  at_here = slice_get-get_or order k d within

  next_is : sum_before hidden cs order (k + 1) ≡ bound_at hidden cs order k here + sum_before hidden cs order k
  next_is = sum_next hidden cs order k here d within refl

  passes_here : total < 2 ^ 64 → 2 ^ 64 ≤ sum_before hidden cs order (k + 1) → (p : Placed) → slice_get order k ≡ Some p → PassesAt hidden (taken_in cs order) p.part
  passes_here fits great p at =
      let part : here.part ≡ p.part = ap (λ (q : Placed). q.part) (same_Some here p (sym at_here ∙ at)) in
      let next = next_taken cs order k d within in
      let passes : PassesAt hidden (taken_in cs (take (k + 1) order)) p.part =
      subst (λ ts. PassesAt hidden ts p.part) (sym next) (inl (part, subst (λ n. n < 2 ^ 64) so_far fits, subst (λ ts. 2 ^ 64 ≤ hidden_bound hidden ts) next great)) in
      subst (λ ts. PassesAt hidden ts p.part) (sym (taken_split cs (k + 1) order)) (passes_grows hidden (taken_in cs (drop (k + 1) order)) (taken_in cs (take (k + 1) order)) p.part passes)

  -- its own bound is too great
  pub own_passes : total < 2 ^ 64 → 2 ^ 64 ≤ bound_at hidden cs order k here → (p : Placed) → slice_get order k ≡ Some p → PassesAt hidden (taken_in cs order) p.part
  own_passes fits great = passes_here fits (more_than (2 ^ 64) (bound_at hidden cs order k here) (sum_before hidden cs order k) (sum_before hidden cs order (k + 1)) great next_is)

  -- the sum with it is
  pub sum_passes : (bound : ℕ) → total < 2 ^ 64 → bound ≡ bound_at hidden cs order k here → 2 ^ 64 ≤ total + bound → (p : Placed) → slice_get order k ≡ Some p → PassesAt hidden (taken_in cs order) p.part
  sum_passes bound fits same great =
      passes_here fits
      (sum_than (2 ^ 64) bound (bound_at hidden cs order k here) total (sum_before hidden cs order k) (sum_before hidden cs order (k + 1)) great same so_far next_is)

  -- both fit
  pub sum_fits : (bound first second : ℕ) → bound ≡ bound_at hidden cs order k here → first ≡ bound → second ≡ total + bound → IsNextSum hidden cs order k first second
  sum_fits bound first second same is is' = record {
    bound = λ p at. is ∙ same ∙ ap (bound_at hidden cs order k) (same_Some here p (sym at_here ∙ at));
    sum = sum_is bound (bound_at hidden cs order k here) total (sum_before hidden cs order k) second (sum_before hidden cs order (k + 1)) same so_far is' next_is;
  }
