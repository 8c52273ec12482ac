-- What arcs there are once more ends were gone over.
use Rattle.definition_kinds.proofs.Prelude.{◌≡◌, ℕ, ◌+◌, ◌<◌, Bool, true, false, ◌&&◌, ◌||◌, nat_eq, nat_lt, List, length, take, get_or, refl, sym, ap, ◌∙◌, arith, Some, slice_get, Vec, option_map, Global, nat_tests, false≢true, eqb-true, list_any_more, slice_get_read, slice_get-map, ends_at, End, rows, comes_from, some_from}

-- one end more
one_more : (now before first t x e : Bool) → now ≡ (before || (x && e)) → before ≡ (first || (t && e)) → now ≡ (first || ((t || x) && e))
one_more now before true t x e is so_far = is ∙ ap (λ b. b || (x && e)) so_far
one_more now before false true x true is so_far = is ∙ ap (λ b. b || (x && true)) so_far
one_more now before false true true false is so_far = is ∙ ap (λ b. b || false) so_far
one_more now before false true false false is so_far = is ∙ ap (λ b. b || false) so_far
one_more now before false false x e is so_far = is ∙ ap (λ b. b || (x && e)) so_far

pub ends_step : (n : ℕ) (target : End) (v w d i : ℕ) (ends : List End) (default : End) (now before first : Bool) → i < length ends
    → now ≡ (before || (comes_from n target v (get_or ends i default) && nat_eq w d)) → before ≡ (first || (some_from n target v (take i ends) && nat_eq w d))
    → now ≡ (first || (some_from n target v (take (i + 1) ends) && nat_eq w d))
ends_step n target v w d i ends default now before first within now_is so_far =
    one_more now before first (some_from n target v (take i ends)) (comes_from n target v (get_or ends i default)) (nat_eq w d) now_is so_far
    ∙ ap (λ b. first || (b && nat_eq w d)) (sym (list_any_more (comes_from n target v) ends i default within))

-- one definition more
last_or_before : (w d : ℕ) → nat_lt w (d + 1) ≡ (nat_lt w d || nat_eq w d)
last_or_before w d = grind (arith, nat_tests)

both : (l e f x : Bool) → (e ≡ true → f ≡ x) → ((l && f) || (x && e)) ≡ ((l || e) && f)
both true true true x h = refl
both true true false true h = absurd (false≢true (h refl))
both true true false false h = refl
both true false true x h = refl
both true false false true h = refl
both true false false false h = refl
both false true true true h = refl
both false true true false h = absurd (false≢true (sym (h refl)))
both false true false true h = absurd (false≢true (h refl))
both false true false false h = refl
both false false f true h = refl
both false false f false h = refl

module _ (n : ℕ) (target : End) (all : List (Vec End Global)) where
  abbrev pub from : ℕ → ℕ → Bool
  from v w = some_from n target v (ends_at (slice_get (rows all) w))

  there : (d : ℕ) (ends : Vec End Global) → d < length all → ends ≡ get_or all d ends → slice_get (rows all) d ≡ Some ends.items
  there d ends within is = slice_get-map (λ (e : Vec End Global). e.items) all d ∙ ap (option_map (λ (e : Vec End Global). e.items)) (slice_get_read all (length all) d ends refl within is)

  pub arcs_step : (v w d : ℕ) (ends : Vec End Global) (now before : Bool) → d < length all → ends ≡ get_or all d ends
      → now ≡ (before || (some_from n target v ends.items && nat_eq w d)) → before ≡ (nat_lt w d && from v w)
      → now ≡ (nat_lt w (d + 1) && from v w)
  arcs_step v w d ends now before within is now_is so_far =
      now_is ∙ ap (λ b. b || (some_from n target v ends.items && nat_eq w d)) so_far
      ∙ both (nat_lt w d) (nat_eq w d) (from v w) (some_from n target v ends.items)
      (λ same. ap (λ k. from v k) (eqb-true w d same) ∙ ap (λ o. some_from n target v (ends_at o)) (there d ends within is))
      ∙ ap (λ b. b && from v w) (sym (last_or_before w d))
