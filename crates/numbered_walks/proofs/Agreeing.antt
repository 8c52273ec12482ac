-- What is counted of events, while components offer more or fewer.
use Rattle.numbered_walks.proofs.Prelude.{◌≡◌, ℕ, zero, suc, ◌+◌, ◌-◌, ◌<◌, ◌≤◌, inl, inr, Bool, ◌||◌, nat_eq, IsTrue, List, [], ◌∷◌, length, set, get_or, refl, sym, ap, subst, ◌∙◌, arith, IsStrictlyIncreasing, cases_eq, eq-eqb, ne_eqb, or_left, or_right, get_or-set_other, get_or-set_same, RisesFrom, has_below, rises_from_increasing, has, bit}

-- what is not 0 is within
pub some_within : (xs : List ℕ) (i : ℕ) → 1 ≤ get_or xs i 0 → i < length xs
some_within [] i h = absurd (omega (arith, h))
some_within (x ∷ xs) zero h = omega arith
some_within (x ∷ xs) (suc i) h = let rest = some_within xs i h in omega (arith, rest)

-- a count that changes at one event
pub changed_at : (xs : List ℕ) (i v e : ℕ) → i < length xs → e ≡ i → get_or (set xs i v) e 0 ≡ v
changed_at xs i v e within same = subst (λ k. get_or (set xs i v) k 0 ≡ v) (sym same) (get_or-set_same xs i v 0 within)

-- ---- events that are still to be counted
pub record AreLeft (events left : List ℕ) : Type 0 where
  pub least : ℕ
  pub rises : RisesFrom least left
  pub within : (e : ℕ) → IsTrue (has left e) → IsTrue (has events e)

pub all_left : (events left : List ℕ) → left ≡ events → IsStrictlyIncreasing events → AreLeft events left
all_left events left is rising = record {
  least = 0;
  rises = rises_from_increasing left (subst IsStrictlyIncreasing (sym is) rising);
  within = λ e h. sym (ap (λ (xs : List ℕ). has xs e) is) ∙ h;
}

module _ (events left rest : List ℕ) (x : ℕ) (is : left ≡ x ∷ rest) (are : AreLeft events left) where
  rest_rises : RisesFrom (x + 1) rest
  rest_rises = (subst (RisesFrom are.least) is are.rises).1

  here_left : (e : ℕ) → e ≡ x → bit (has left e) ≡ 1
  here_left e same = ap bit (ap (λ (xs : List ℕ). has xs e) is ∙ or_left (nat_eq x e) (has rest e) (eq-eqb x e (sym same)))

  here_gone : (e : ℕ) → e ≡ x → bit (has rest e) ≡ 0
  here_gone e same = ap bit (ap (has rest) same ∙ has_below (x + 1) rest x rest_rises (omega arith))

  others_left : (e : ℕ) → (e ≡ x → ⊥) → bit (has left e) ≡ bit (has rest e)
  others_left e other = ap bit (ap (λ (xs : List ℕ). has xs e) is ∙ ap (λ (b : Bool). b || has rest e) (ne_eqb x e (λ p. other (sym p))))

  pub this_listed : IsTrue (has events x)
  this_listed = are.within x (ap (λ (xs : List ℕ). has xs x) is ∙ or_left (nat_eq x x) (has rest x) (eq-eqb x x refl))

  pub fewer_left : AreLeft events rest
  fewer_left = record {
    least = x + 1;
    rises = rest_rises;
    within = λ e h. are.within e (ap (λ (xs : List ℕ). has xs e) is ∙ or_right (nat_eq x e) (has rest e) h);
  }

  -- a count of this event alone changes, and so does what is left of it
  one_counted : (old now new : List ℕ) (n : ℕ) (was is_now before after : ℕ → ℕ) → x < length now → new ≡ set now x n → ((e : ℕ) → get_or now e 0 + before e ≡ get_or old e 0 + was e)
      → n + after x + was x ≡ get_or now x 0 + before x + is_now x → ((e : ℕ) → (e ≡ x → ⊥) → (after e ≡ before e) × (is_now e ≡ was e)) → (e : ℕ) → get_or new e 0 + after e ≡ get_or old e 0 + is_now e
  one_counted old now new n was is_now before after within grown so_far here others e =
      let read : get_or new e 0 ≡ get_or (set now x n) e 0 = ap (λ (ns : List ℕ). get_or ns e 0) grown in
      let held = so_far e in
      elim (cases_eq e x) as (λ _. get_or new e 0 + after e ≡ get_or old e 0 + is_now e) [
        | inl same ↦
            let changed = changed_at now x n e within same in
            let moved : n + after e + was e ≡ get_or now e 0 + before e + is_now e = subst (λ k. n + after k + was k ≡ get_or now k 0 + before k + is_now k) (sym same) here in
            omega (arith, read, changed, held, moved)
        | inr other ↦
            let kept = get_or-set_other now x e n 0 other in
            let alike = others e other in
            let first = alike.0 in
            let second = alike.1 in
            omega (arith, read, kept, held, first, second)
      ]

  pub offered_more : (old now new : List ℕ) → x < length now → ((e : ℕ) → get_or now e 0 + bit (has left e) ≡ get_or old e 0 + bit (has events e)) → new ≡ set now x (get_or now x 0 + 1)
      → (e : ℕ) → get_or new e 0 + bit (has rest e) ≡ get_or old e 0 + bit (has events e)
  offered_more old now new within before grown =
      let one = here_left x refl in
      let none = here_gone x refl in
      one_counted old now new (get_or now x 0 + 1) (λ e. bit (has events e)) (λ e. bit (has events e)) (λ e. bit (has left e)) (λ e. bit (has rest e)) within grown before (omega (arith, one, none))
      (λ e other. (sym (others_left e other), refl))

  pub withdrawn_more : (old now new : List ℕ) → x < length now → 1 ≤ get_or now x 0 → ((e : ℕ) → get_or now e 0 + bit (has events e) ≡ get_or old e 0 + bit (has left e)) → new ≡ set now x (get_or now x 0 - 1)
      → (e : ℕ) → get_or new e 0 + bit (has events e) ≡ get_or old e 0 + bit (has rest e)
  withdrawn_more old now new within some before grown =
      let one = here_left x refl in
      let none = here_gone x refl in
      one_counted old now new (get_or now x 0 - 1) (λ e. bit (has left e)) (λ e. bit (has rest e)) (λ e. bit (has events e)) (λ e. bit (has events e)) within grown before (omega (arith, one, none, some))
      (λ e other. (refl, sym (others_left e other)))

  pub some_left : (old now : List ℕ) → ((e : ℕ) → bit (has events e) ≤ get_or old e 0) → ((e : ℕ) → get_or now e 0 + bit (has events e) ≡ get_or old e 0 + bit (has left e)) → 1 ≤ get_or now x 0
  some_left old now enough before = let all = enough x in let so_far = before x in let one = here_left x refl in omega (arith, all, so_far, one)

  pub room_left : (old now : List ℕ) (most : ℕ) → ((e : ℕ) → get_or old e 0 + bit (has events e) ≤ most) → ((e : ℕ) → get_or now e 0 + bit (has left e) ≡ get_or old e 0 + bit (has events e)) → get_or now x 0 < most
  room_left old now most room before = let all = room x in let so_far = before x in let one = here_left x refl in omega (arith, all, so_far, one)

-- none are left
pub none_left : (left : List ℕ) (e : ℕ) → left ≡ [] → bit (has left e) ≡ 0
none_left left e is = ap (λ (xs : List ℕ). bit (has xs e)) is
