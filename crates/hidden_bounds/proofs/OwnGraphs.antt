-- Own graphs as digraphs, and the greatest of their heights.
use Rattle.hidden_bounds.proofs.Prelude.{◌≡◌, ℕ, zero, suc, ◌+◌, ◌<◌, ◌≤◌, true, ◌&&◌, nat_eq, IsTrue, List, [], ◌∷◌, ◌++◌, Some, length, take, get_or, max, add-one, refl, sym, ap, subst, ◌∙◌, arith, inl, inr, first_so, second_so, take-suc, cases_lt, eq-eqb, eqb-true, or_cases, or_left, or_right, get_or_default, any_passes_from_place, greatest, has, visible, HasRawForm, has_silent, has_step, RawStep, RawTable, IsCircle, Digraph, HasArc, AreHeights, Walk, same_circle, same_walk, AreOwnRows, IsOwnHeight, OwnArc, has_step_by, listed_silent, passing, silent_listed, step_at}

-- ---- arcs are steps

same : (n : ℕ) → nat_eq n n ≡ true
same n = eq-eqb n n refl

by_listed : (raw : RawTable) (events : List ℕ) (s e t : ℕ) → has events e ≡ true → RawStep raw s (visible e) t → has_step_by raw events s t ≡ true
by_listed raw events s e t h step =
    let first : nat_eq s s ≡ true = same s in
    let third : nat_eq t t ≡ true = same t in
    any_passes_from_place (λ (p : ℕ × ℕ × ℕ). nat_eq s p.0 && has events p.1 && nat_eq t p.2) raw.steps step.0 (s, e, t) step.1 (rw (first, h, third) refl)

listed_by : (raw : RawTable) (events : List ℕ) (s t : ℕ) → has_step_by raw events s t ≡ true → (e : ℕ) × IsTrue (has events e) × RawStep raw s (visible e) t
listed_by raw events s t h =
    let p = passing (λ (p : ℕ × ℕ × ℕ). nat_eq s p.0 && has events p.1 && nat_eq t p.2) raw.steps h in
    let y : ℕ × ℕ × ℕ = p.element in
    let front : (nat_eq s y.0 && has events y.1) ≡ true = first_so (nat_eq s y.0 && has events y.1) (nat_eq t y.2) p.passes in
    let a : y.0 ≡ s = sym (eqb-true s y.0 (first_so (nat_eq s y.0) (has events y.1) front)) in
    let d : y.2 ≡ t = sym (eqb-true t y.2 (second_so (nat_eq s y.0 && has events y.1) (nat_eq t y.2) p.passes)) in
    let is : y ≡ (s, y.1, t) = λ i. (a i, y.1, d i) in
    (y.1, second_so (nat_eq s y.0) (has events y.1) front, (p.place, p.at ∙ ap Some is))

module _ (raw : RawTable) (events : List ℕ) (g : Digraph) (rows : AreOwnRows raw events g) where
  pub own_of : (s t : ℕ) → HasArc g s t → OwnArc raw events s t
  own_of s t arc = elim (or_cases (has_silent raw s t) (has_step_by raw events s t) (sym (rows.same s t) ∙ arc)) [
    | inl quiet ↦ inl (listed_silent raw s t quiet)
    | inr by ↦ inr (listed_by raw events s t by)
  ]

  pub arc_of : (s t : ℕ) → OwnArc raw events s t → HasArc g s t
  arc_of s t (inl quiet) = rows.same s t ∙ or_left (has_silent raw s t) (has_step_by raw events s t) (silent_listed raw s t quiet)
  arc_of s t (inr by) = rows.same s t ∙ or_right (has_silent raw s t) (has_step_by raw events s t) (by_listed raw events s by.0 t by.1 by.2)

-- the terms of a step that the table lists
pub step_within : (raw : RawTable) (items : List (ℕ × ℕ × ℕ)) (k n : ℕ) (step : ℕ × ℕ × ℕ) → HasRawForm raw → items ≡ raw.steps → k < length items → step ≡ get_or items k step → n ≡ raw.count
    → (step.0 < n) × (step.2 < n)
step_within raw items k n step form listed below is size =
    let within : k < length raw.steps = subst (λ (xs : List (ℕ × ℕ × ℕ)). k < length xs) listed below in
    let here : get_or raw.steps k (0, 0, 0) ≡ step =
    get_or_default raw.steps k (0, 0, 0) step within ∙ ap (λ (xs : List (ℕ × ℕ × ℕ)). get_or xs k step) (sym listed) ∙ sym is in
    let inside : (step.0 < raw.count) × (step.2 < raw.count) = form.steps_within step.0 step.1 step.2 (subst (λ (y : ℕ × ℕ × ℕ). IsTrue (has_step raw y.0 y.1 y.2)) here (step_at raw k within)) in
    (subst (λ m. step.0 < m) (sym size) inside.0, subst (λ m. step.2 < m) (sym size) inside.1)

-- ---- the greatest

three_max : (a b c : ℕ) → max a (max b c) ≡ max (max a b) c
three_max a b c = omega arith

two_max : (a : ℕ) → max a 0 ≡ max 0 a
two_max a = omega arith

greatest_push : (xs : List ℕ) (x : ℕ) → greatest (xs ++ x ∷ []) ≡ max (greatest xs) x
greatest_push [] x = two_max x
greatest_push (y ∷ xs) x = ap (max y) (greatest_push xs x) ∙ three_max y (greatest xs) x

-- one more number
pub one_greatest : (xs : List ℕ) (i d most next : ℕ) → i < length xs → most ≡ greatest (take i xs) → next ≡ max most (get_or xs i d) → next ≡ greatest (take (i + 1) xs)
one_greatest xs i d most next within so_far now =
    let grown : take i xs ++ get_or xs i d ∷ [] ≡ take (i + 1) xs = rw (add-one) (sym (take-suc xs i d within)) in
    now ∙ ap (λ m. max m (get_or xs i d)) so_far ∙ sym (greatest_push (take i xs) (get_or xs i d)) ∙ ap greatest grown

at_most_greatest : (ns : List ℕ) (i : ℕ) → get_or ns i 0 ≤ greatest ns
at_most_greatest [] i = omega arith
at_most_greatest (n ∷ ns) zero = omega arith
at_most_greatest (n ∷ ns) (suc i) = let le : get_or ns i 0 ≤ greatest ns = at_most_greatest ns i in omega arith

greatest_is : (n : ℕ) (ns : List ℕ) → (i : ℕ) × (i < length (n ∷ ns)) × (get_or (n ∷ ns) i 0 ≡ greatest (n ∷ ns))
greatest_is n [] = (0, omega arith, omega arith)
greatest_is n (m ∷ ns) =
    elim (cases_lt n (greatest (m ∷ ns))) [
      | inl less ↦ let r = greatest_is m ns in (suc r.0, (let h : r.0 < length (m ∷ ns) = r.1 in omega arith), (let e : get_or (m ∷ ns) r.0 0 ≡ greatest (m ∷ ns) = r.2 in omega arith))
      | inr more ↦ (0, omega arith, omega arith)
    ]

reaches_greatest : (ns : List ℕ) → 0 < length ns → (i : ℕ) × (i < length ns) × (get_or ns i 0 ≡ greatest ns)
reaches_greatest [] h = absurd (omega arith)
reaches_greatest (n ∷ ns) h = greatest_is n ns

-- ---- heights

module _ (raw : RawTable) (events : List ℕ) (g : Digraph) (rows : AreOwnRows raw events g) where
  pub height_of : (heights : List ℕ) → 1 ≤ raw.count → AreHeights (HasArc g) (length g) heights → IsOwnHeight raw events (greatest heights)
  height_of heights some are =
      let size : length g ≡ raw.count = rows.size in
      let many : length heights ≡ length g = are.one_each in
      let top = reaches_greatest heights (omega arith) in
      let within : top.0 < length heights = top.1 in
      let h = are.each top.0 (omega arith) in
      let walk = same_walk (HasArc g) (OwnArc raw events) (own_of raw events g rows) (get_or heights top.0 0) top.0 h.end h.attained in
      record {
        attained = (top.0, h.end, omega arith, subst (λ k. Walk (OwnArc raw events) k top.0 h.end) top.2 walk);
        most = λ s t m below w.
            let inside : s < length g = omega arith in
            let le : m ≤ get_or heights s 0 = (are.each s inside).most m t (same_walk (OwnArc raw events) (HasArc g) (arc_of raw events g rows) m s t w) in
            let most : get_or heights s 0 ≤ greatest heights = at_most_greatest heights s in
            omega arith;
      }

  pub round_of : (terms : List ℕ) → IsCircle (HasArc g) terms → IsCircle (OwnArc raw events) terms
  round_of terms circle = same_circle (HasArc g) (OwnArc raw events) (own_of raw events g rows) terms circle
