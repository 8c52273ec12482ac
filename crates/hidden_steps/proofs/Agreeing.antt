-- The next component is determined by those taken before it: it is the least free one, and its height is one number. So two takings go the same way, as far
-- as both go; and one over which none is free goes as far as any.
use Rattle.hidden_steps.proofs.Prelude.{◌≡◌, ◌⊎◌, ◌≤◌, ℕ, zero, suc, List, [], ◌∷◌, slice_get, IsTrue, refl, sym, ap, ap₂, subst, ◌∙◌, arith, inl, inr, cases_lt, same_Some, has, same_tests, slice_get_some, Label, Component, Walk, AreTaken, GoesRound, HasNoOrder, IsAmong, IsHeight, IsNext, IsNotFree, IsOrder, OwnStep, Taken, hidden_bound}
use Rattle.csp_base.proofs.SetLaws.{same_set}
use Rattle.hidden_steps.specs.Agreeing.{IsFrontOf}

-- ---- walks round a circle get as long as may be

longer : {V : Type 0} (Arc : V → V → Type 0) (n k m : ℕ) (x y z : V) → Walk Arc (suc n) x y → k ≤ m → Walk Arc m y z → (l : ℕ) × (suc k ≤ l) × Walk Arc l x z
longer Arc zero k m x y z w le walk = (suc m, omega arith, (w.0, w.1, subst (λ v. Walk Arc m v z) (sym w.2) walk))
longer Arc (suc n) k m x y z w le walk =
    let r = longer Arc n k m w.0 y z w.2 le walk in
    let many : suc k ≤ r.0 = r.1 in
    (suc r.0, omega arith, (w.0, w.1, r.2))

round : {V : Type 0} (Arc : V → V → Type 0) (n : ℕ) (v : V) → Walk Arc (suc n) v v → (k : ℕ) → (l : ℕ) × (k ≤ l) × Walk Arc l v v
round Arc n v circle zero = (0, omega arith, refl)
round Arc n v circle (suc k) = let r = round Arc n v circle k in longer Arc n k r.0 v v v circle r.1 r.2

-- ---- fronts

none_is_front : (us : List Taken) → IsFrontOf [] us
none_is_front [] = refl
none_is_front (u ∷ us) = inr (none_is_front us)

all_is_front : (us : List Taken) → IsFrontOf us us
all_is_front [] = refl
all_is_front (u ∷ us) = inl refl

module _ {T : Type 0} (Step : T → Label → T → Type 0) (hidden : List ℕ) where
  -- one that has a height has no circle, and no second height
  not_both : (ts : List Taken) (c : Component T) (n : ℕ) → IsHeight Step hidden ts c n → GoesRound Step hidden ts c → ⊥
  not_both ts c n height r =
      let walk = round (OwnStep Step hidden ts) r.more r.state r.round (suc n) in
      let many : suc n ≤ walk.0 = walk.1 in
      let few : walk.0 ≤ n = height.most r.state r.state walk.0 r.reached walk.2 in
      omega arith

  height_le : (ts : List Taken) (c : Component T) (m n : ℕ) → IsHeight Step hidden ts c m → IsHeight Step hidden ts c n → m ≤ n
  height_le ts c m n h k = let a = h.attained in k.most a.0 a.1 m a.2 a.3

  one_height : (ts : List Taken) (c : Component T) (m n : ℕ) → IsHeight Step hidden ts c m → IsHeight Step hidden ts c n → m ≡ n
  one_height ts c m n h k =
      let le : m ≤ n = height_le ts c m n h k in
      let ge : n ≤ m = height_le ts c n m k h in
      omega arith

  module _ (cs : List (Component T)) where
    -- ---- the next one

    next_is_free : (ts : List Taken) (t : Taken) → IsNext Step hidden cs ts t → IsNotFree Step hidden cs ts t.part → ⊥
    next_is_free ts t next not = elim (not next.component next.at) as (λ _. ⊥) [
      | inl among ↦ next.new among
      | inr goes ↦ not_both ts next.component t.height next.height goes
    ]

    not_less : (ts : List Taken) (t u : Taken) → IsNext Step hidden cs ts t → IsNext Step hidden cs ts u → u.part ≤ t.part
    not_less ts t u next other = elim (cases_lt t.part u.part) as (λ _. u.part ≤ t.part) [
      | inl less ↦ absurd (next_is_free ts t next (other.least t.part less))
      | inr more ↦ more
    ]

    same_fields : (t u : Taken) → t.part ≡ u.part → t.alphabet ≡ u.alphabet → t.height ≡ u.height → t ≡ u
    same_fields t u p a h = λ i. record { part = p i; alphabet = a i; height = h i }

    one_next : (ts : List Taken) (t u : Taken) → IsNext Step hidden cs ts t → IsNext Step hidden cs ts u → t ≡ u
    one_next ts t u next other =
        let le : u.part ≤ t.part = not_less ts t u next other in
        let ge : t.part ≤ u.part = not_less ts u t other next in
        let part : t.part ≡ u.part = omega arith in
        let component : next.component ≡ other.component = same_Some next.component other.component (sym next.at ∙ ap (slice_get cs) part ∙ other.at) in
        let height = subst (λ (c : Component T). IsHeight Step hidden ts c t.height) component next.height in
        same_fields t u part (sym next.alphabet ∙ ap (λ (c : Component T). c.alphabet) component ∙ other.alphabet) (one_height ts other.component t.height u.height height other.height)

    -- ---- two takings

    -- with one more of the first, it is still a front, or the second ended before it
    one_further : (ts : List Taken) (t : Taken) (us : List Taken) → IsNext Step hidden cs ts t → AreTaken Step hidden cs us → IsFrontOf ts us → IsFrontOf (t ∷ ts) us ⊎ (us ≡ ts)
    one_further ts t [] next are front = inr (sym front)
    one_further ts t (u ∷ us) next are (inl same) = inr (sym same)
    one_further ts t (u ∷ us) next are (inr front) = elim (one_further ts t us next are.1 front) as (λ _. IsFrontOf (t ∷ ts) (u ∷ us) ⊎ (u ∷ us ≡ ts)) [
      | inl longer_front ↦ inl (inr longer_front)
      | inr same ↦
          let other = subst (λ (xs : List Taken). IsNext Step hidden cs xs u) same are.0 in
          inl (inl (ap₂ (λ x xs. x ∷ xs) (one_next ts t u next other) (sym same)))
    ]

    pub fronts : (ts us : List Taken) → AreTaken Step hidden cs ts → AreTaken Step hidden cs us → IsFrontOf ts us ⊎ IsFrontOf us ts
    fronts [] us are other = inl (none_is_front us)
    fronts (t ∷ ts) us are other = elim (fronts ts us are.1 other) as (λ _. IsFrontOf (t ∷ ts) us ⊎ IsFrontOf us (t ∷ ts)) [
      | inl front ↦ elim (one_further ts t us are.0 other front) as (λ _. IsFrontOf (t ∷ ts) us ⊎ IsFrontOf us (t ∷ ts)) [
        | inl longer_front ↦ inl longer_front
        | inr same ↦ inr (inr (subst (λ (xs : List Taken). IsFrontOf xs ts) (sym same) (all_is_front ts)))
      ]
      | inr front ↦ inr (inr front)
    ]

    -- ---- where none is free any more

    abbrev IsLast : List Taken → Type 0
    IsLast ts = (i : ℕ) → IsNotFree Step hidden cs ts i

    none_further : (ts us : List Taken) → IsLast ts → AreTaken Step hidden cs us → IsFrontOf ts us → ts ≡ us
    none_further ts [] last are front = front
    none_further ts (u ∷ us) last are (inl same) = same
    none_further ts (u ∷ us) last are (inr front) =
        let same = none_further ts us last are.1 front in
        absurd (next_is_free ts u (subst (λ (xs : List Taken). IsNext Step hidden cs xs u) (sym same) are.0) (last u.part))

    one_last : (ts us : List Taken) → AreTaken Step hidden cs ts → AreTaken Step hidden cs us → IsLast ts → IsLast us → ts ≡ us
    one_last ts us are other last last' = elim (fronts ts us are other) as (λ _. ts ≡ us) [
      | inl front ↦ none_further ts us last other front
      | inr front ↦ sym (none_further us ts last' are front)
    ]

    is_last : (order : List Taken) → IsOrder Step hidden cs order → IsLast order
    is_last order is i c at = inl (is.all i c at)

    pub one_order : (order other : List Taken) → IsOrder Step hidden cs order → IsOrder Step hidden cs other → order ≡ other
    one_order order other a b = one_last order other a.taken b.taken (is_last order a) (is_last other b)

    pub one_bound : (order other : List Taken) → IsOrder Step hidden cs order → IsOrder Step hidden cs other → hidden_bound hidden order ≡ hidden_bound hidden other
    one_bound order other a b = ap (hidden_bound hidden) (one_order order other a b)

    pub no_order : (parts : List ℕ) (order : List Taken) → HasNoOrder Step hidden cs parts → IsOrder Step hidden cs order → ⊥
    no_order parts order none is =
        let same = one_last none.taken order none.are is.taken none.none_free (is_last order is) in
        let left = (none.left none.some.0).0 none.some.1 in
        let c = slice_get_some cs none.some.0 left.0 in
        left.1 (subst (IsAmong none.some.0) (sym same) (is.all none.some.0 c.0 c.1))

    others_within : (parts others : List ℕ) (a : HasNoOrder Step hidden cs parts) (b : HasNoOrder Step hidden cs others) → a.taken ≡ b.taken → (i : ℕ) → IsTrue (has parts i) → IsTrue (has others i)
    others_within parts others a b same i listed =
        let left = (a.left i).0 listed in
        (b.left i).1 (left.0, λ among. left.1 (subst (IsAmong i) (sym same) among))

    pub one_rest : (parts others : List ℕ) → HasNoOrder Step hidden cs parts → HasNoOrder Step hidden cs others → parts ≡ others
    one_rest parts others a b =
        let same = one_last a.taken b.taken a.are b.are a.none_free b.none_free in
        same_set parts others a.rising b.rising
        (λ i. same_tests (has parts i) (has others i) (others_within parts others a b same i) (others_within others parts b a (sym same) i))
