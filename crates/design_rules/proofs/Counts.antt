-- Counts: of numbers that pass a test, of events in a set; and whole laps of a count.
use Rattle.design_rules.proofs.Prelude.{◌≡◌, ℕ, zero, suc, ◌+◌, ◌*◌, ◌/◌, ◌%◌, ◌<◌, ◌≤◌, inl, inr, List, [], ◌∷◌, ◌++◌, Bool, true, false, not, ◌&&◌, cond, IsTrue, nat_eq, refl, sym, ap, subst, ◌∙◌, arith, eq-eqb, ne_eqb, cases_eq, cond-true, cond-false, both_ways, and-true, and-false, div-add-mod', div-mul-add, mod-mul-add, has, count_below, count_in, above_all, project, IsWithin}

-- ---- numbers that pass a test

counted : (test : ℕ → Bool) (n : ℕ) → test n ≡ true → count_below test (suc n) ≡ count_below test n + 1
counted test n h = cond-true (test n) (count_below test n + 1) (count_below test n) h

not_counted : (test : ℕ → Bool) (n : ℕ) → test n ≡ false → count_below test (suc n) ≡ count_below test n
not_counted test n h = cond-false (test n) (count_below test n + 1) (count_below test n) h

step_up : (test : ℕ → Bool) (n : ℕ) → count_below test (suc n) ≤ count_below test n + 1
step_up test n = grind (arith)

-- more numbers pass a weaker test
pub count_mono : (f g : ℕ → Bool) (n : ℕ) → ((m : ℕ) → m < n → IsTrue (f m) → IsTrue (g m)) → count_below f n ≤ count_below g n
count_mono f g zero h = omega arith
count_mono f g (suc n) h =
    let rest : count_below f n ≤ count_below g n = count_mono f g n (λ m l. h m (omega arith)) in
    let here : IsTrue (f n) → IsTrue (g n) = h n (omega arith) in
    grind (arith)

-- and one more at least where one passes that test alone
pub count_strict : (f g : ℕ → Bool) (n x : ℕ) → ((m : ℕ) → m < n → IsTrue (f m) → IsTrue (g m)) → x < n → f x ≡ false → g x ≡ true → count_below f n < count_below g n
count_strict f g zero x h l a b = absurd (omega arith)
count_strict f g (suc n) x h l a b =
    let here : IsTrue (f n) → IsTrue (g n) = h n (omega arith) in
    elim (cases_eq x n) [
      | inl e ↦
          let rest : count_below f n ≤ count_below g n = count_mono f g n (λ m i. h m (omega arith)) in
          omega (arith, not_counted f n (subst (λ y. f y ≡ false) e a), counted g n (subst (λ y. g y ≡ true) e b))
      | inr ne ↦ let rest : count_below f n < count_below g n = count_strict f g n x (λ m i. h m (omega arith)) (omega arith) a b in grind (arith)
    ]

pub count_at_most : (test : ℕ → Bool) (n : ℕ) → count_below test n ≤ n
count_at_most test zero = omega arith
count_at_most test (suc n) = omega (arith, step_up test n, count_at_most test n)

pub below_all : (f : ℕ → ℕ) (n i : ℕ) → i < n → f i < above_all f n
below_all f zero i h = absurd (omega arith)
below_all f (suc n) i h = grind (arith, below_all f n i)

-- ---- events in a set

pub count_more : (S : List ℕ) (e : ℕ) (s : List ℕ) → has S e ≡ true → count_in S (e ∷ s) ≡ count_in S s + 1
count_more S e s h = cond-true (has S e) (count_in S s + 1) (count_in S s) h

pub count_same : (S : List ℕ) (e : ℕ) (s : List ℕ) → has S e ≡ false → count_in S (e ∷ s) ≡ count_in S s
count_same S e s h = cond-false (has S e) (count_in S s + 1) (count_in S s) h

count_append : (S u v : List ℕ) → count_in S (u ++ v) ≡ count_in S u + count_in S v
count_append S [] v = omega arith
count_append S (x ∷ u) v = let rest : count_in S (u ++ v) ≡ count_in S u + count_in S v = count_append S u v in grind (arith)

pub count_push_more : (S u : List ℕ) (e : ℕ) → has S e ≡ true → count_in S (u ++ e ∷ []) ≡ count_in S u + 1
count_push_more S u e h = omega (arith, count_append S u (e ∷ []), count_more S e [] h)

pub count_push_same : (S u : List ℕ) (e : ℕ) → has S e ≡ false → count_in S (u ++ e ∷ []) ≡ count_in S u
count_push_same S u e h = omega (arith, count_append S u (e ∷ []), count_same S e [] h)

-- a projection keeps the events of a set that is within the alphabet
pub count_project : (S A s : List ℕ) → IsWithin S A → count_in S (project A s) ≡ count_in S s
count_project S A [] w = refl
count_project S A (e ∷ s) w =
    let rest : count_in S (project A s) ≡ count_in S s = count_project S A s w in
    let here : IsTrue (has S e) → IsTrue (has A e) = w e in
    grind (arith)

-- ---- whole laps of k places

pub lap_over : (t k : ℕ) → t % k + 1 ≡ k → ((t + 1) / k ≡ t / k + 1) × ((t + 1) % k ≡ 0)
lap_over t k h =
    let e : t / k * k + t % k ≡ t = div-add-mod' t k in
    let f : t + 1 ≡ (t / k + 1) * k + 0 = omega (arith, e, h) in
    (ap (λ x. x / k) f ∙ div-mul-add (t / k + 1) k 0 (omega arith), ap (λ x. x % k) f ∙ mod-mul-add (t / k + 1) k 0 (omega arith))

pub lap_on : (t k : ℕ) → t % k + 1 < k → ((t + 1) / k ≡ t / k) × ((t + 1) % k ≡ t % k + 1)
lap_on t k h =
    let e : t / k * k + t % k ≡ t = div-add-mod' t k in
    let f : t + 1 ≡ t / k * k + (t % k + 1) = omega (arith, e, h) in
    (ap (λ x. x / k) f ∙ div-mul-add (t / k) k (t % k + 1) (omega arith), ap (λ x. x % k) f ∙ mod-mul-add (t / k) k (t % k + 1) (omega arith))

-- ---- numbers at places

-- The numbers below n that pass the test stand at the places below p, one at each.
pub record Placed (test : ℕ → Bool) (n : ℕ) (IsAt : ℕ → ℕ → Type 0) (p : ℕ) : Type 0 where
  pub some : (q : ℕ) → q < p → (m : ℕ) × IsAt q m
  pub one : (q m k : ℕ) → q < p → IsAt q m → IsAt q k → m ≡ k
  pub apart : (q r m : ℕ) → q < p → r < p → IsAt q m → IsAt r m → q ≡ r
  pub passes : (q m : ℕ) → q < p → IsAt q m → (m < n) × IsTrue (test m)
  pub only : (m : ℕ) → m < n → IsTrue (test m) → ((q : ℕ) → q < p → IsAt q m → ⊥) → ⊥

count_none : (test : ℕ → Bool) (n : ℕ) → ((m : ℕ) → m < n → IsTrue (test m) → ⊥) → count_below test n ≡ 0
count_none test zero none = refl
count_none test (suc n) none =
    let rest : count_below test n ≡ 0 = count_none test n (λ m l. none m (omega arith)) in
    let here : IsTrue (test n) → ⊥ = none n (omega arith) in
    grind (arith)

-- the test that passes all but one number
abbrev but : (ℕ → Bool) → ℕ → ℕ → Bool
but test x m = test m && not (nat_eq x m)

but_other : (test : ℕ → Bool) (x m : ℕ) → (x ≡ m → ⊥) → but test x m ≡ test m
but_other test x m ne = ap (λ b. test m && not b) (ne_eqb x m ne) ∙ and-true (test m)

but_self : (test : ℕ → Bool) (x : ℕ) → but test x x ≡ false
but_self test x = ap (λ b. test x && not b) (eq-eqb x x refl) ∙ and-false (test x)

but_parts : (test : ℕ → Bool) (x m : ℕ) → IsTrue (but test x m) → IsTrue (test m) × (x ≡ m → ⊥)
but_parts test x m h =
    elim (cases_eq x m) [
      | inl same ↦ absurd (both_ways (but test x x) (but_self test x) (subst (λ y. IsTrue (but test x y)) (sym same) h))
      | inr other ↦ (sym (but_other test x m other) ∙ h, other)
    ]

-- tests that agree count the same
pub count_agree : (f g : ℕ → Bool) (n : ℕ) → ((m : ℕ) → m < n → f m ≡ g m) → count_below f n ≡ count_below g n
count_agree f g zero h = refl
count_agree f g (suc n) h = let head : f n ≡ g n = h n (omega arith) in let rest = count_agree f g n (λ m l. h m (omega arith)) in ap (λ c. cond (f n) (c + 1) c) rest ∙ ap (λ b. cond b (count_below g n + 1) (count_below g n)) head

count_but : (test : ℕ → Bool) (n x : ℕ) → x < n → IsTrue (test x) → count_below test n ≡ count_below (but test x) n + 1
count_but test zero x h t = absurd (omega arith)
count_but test (suc n) x h t =
    elim (cases_eq x n) [
      | inl e ↦
          let same : count_below (but test x) n ≡ count_below test n = count_agree (but test x) test n (λ m l. but_other test x m (λ y. let z : x ≡ m = y in omega arith)) in
          omega (arith, counted test n (subst (λ y. IsTrue (test y)) e t), not_counted (but test x) n (subst (λ y. but test x y ≡ false) e (but_self test x)), same)
      | inr ne ↦
          let rest : count_below test n ≡ count_below (but test x) n + 1 = count_but test n x (omega arith) t in
          let agrees : but test x n ≡ test n = but_other test x n ne in
          grind (arith)
    ]

-- so as many pass as there are places
pub count_placed : (test : ℕ → Bool) (n : ℕ) (IsAt : ℕ → ℕ → Type 0) (p : ℕ) → Placed test n IsAt p → count_below test n ≡ p
count_placed test n IsAt zero g = count_none test n (λ m h t. g.only m h t (λ q l x. omega arith))
count_placed test n IsAt (suc p) g =
    let last = g.some p (omega arith) in
    let x = last.0 in
    let passes = g.passes p x (omega arith) last.1 in
    let rest = count_placed (but test x) n IsAt p
    (record {
      some = λ q h. g.some q (omega arith);
      one = λ q m k h. g.one q m k (omega arith);
      apart = λ q r m h k. g.apart q r m (omega arith) (omega arith);
      passes = λ q m h y. let t = g.passes q m (omega arith) y in (t.0, but_other test x m (λ same. let place : q ≡ p = g.apart q p m (omega arith) (omega arith) y (subst (IsAt p) same last.1) in omega arith) ∙ t.1);
      only = λ m h t none.
          let parts = but_parts test x m t in
          g.only m h parts.0 (λ q l y. elim (cases_eq q p) [ inl top ↦ parts.1 (g.one p x m (omega arith) last.1 (subst (λ r. IsAt r m) top y)) | inr lower ↦ none q (omega arith) y ]);
    }) in
    omega (arith, count_but test n x passes.0 passes.1, rest)
