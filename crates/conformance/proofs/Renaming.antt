-- Tables with other numbers for their events, one number for each event of an alphabet, conform to each other as the tables do.
use Rattle.conformance.proofs.Prelude.{◌≡◌, ℕ, zero, suc, ◌<◌, List, [], ◌∷◌, ◌||◌, ◌&&◌, if◌then◌else◌, length, map, get_or, true, IsTrue, Bool, nat_eq, refl, sym, ap, ap₂, subst, ◌∙◌, inl, inr, eq-eqb, and_parts, cases_Bool, eqb-true, false≢true, length-map, or_cases, or_left, or_right, has, StepsHaveForm, AreWithin, NodesHaveForm, Node, IsRun, acceptances_after, end_of, is_possible, is_run, node_after, node_at, target, IsWithin, node_form, HasWithin, TableConforms, IsOneToOne}
use Rattle.std.proofs.Math.ListN.{get_or-map as map-at}
use Rattle.conformance.proofs.Following.{possible_known}

abbrev pub renamed_step : (ℕ → ℕ) → ℕ × ℕ → ℕ × ℕ
renamed_step g step = (g step.0, step.1)

abbrev pub renamed_steps : (ℕ → ℕ) → List (ℕ × ℕ) → List (ℕ × ℕ)
renamed_steps g steps = map (renamed_step g) steps

-- the node, with the number of each event
abbrev pub renamed_node : (ℕ → ℕ) → Node → Node
renamed_node g node = record { next = renamed_steps g node.next; accept = map (map g) node.accept }

abbrev pub renamed : (ℕ → ℕ) → List Node → List Node
renamed g table = map (renamed_node g) table

module _ (a : List ℕ) (g : ℕ → ℕ) (one : IsOneToOne a g) where
  same_test : (e f : ℕ) → IsTrue (has a e) → IsTrue (has a f) → nat_eq (g e) (g f) ≡ nat_eq e f
  same_test e f h k = elim (cases_Bool (nat_eq e f)) [
    | inl same ↦ eq-eqb (g e) (g f) (ap g (eqb-true e f same)) ∙ sym same
    | inr other ↦ elim (cases_Bool (nat_eq (g e) (g f))) [
      | inl same ↦ absurd (false≢true (sym other ∙ eq-eqb e f (one e f h k (eqb-true (g e) (g f) same))))
      | inr apart ↦ apart ∙ sym other
    ]
  ]

  -- ---- steps

  possible_same : (m : ℕ) (steps : List (ℕ × ℕ)) (e : ℕ) → StepsHaveForm a m steps → IsTrue (has a e) → is_possible (renamed_steps g steps) (g e) ≡ is_possible steps e
  possible_same m [] e form h = refl
  possible_same m (s ∷ steps) e form h = ap₂ (λ x y. x || y) (same_test s.0 e form.0 h) (possible_same m steps e form.3 h)

  target_same : (m : ℕ) (steps : List (ℕ × ℕ)) (e : ℕ) → StepsHaveForm a m steps → IsTrue (has a e) → target (renamed_steps g steps) (g e) ≡ target steps e
  target_same m [] e form h = refl
  target_same m (s ∷ steps) e form h = ap₂ (λ (x : Bool) (n : ℕ). if x then s.1 else n) (same_test s.0 e form.0 h) (target_same m steps e form.3 h)

  -- the event that has a number by which there is a step
  possible_from : (m : ℕ) (steps : List (ℕ × ℕ)) (x : ℕ) → StepsHaveForm a m steps → is_possible (renamed_steps g steps) x ≡ true → (e : ℕ) × IsTrue (has a e) × (g e ≡ x)
  possible_from m [] x form h = absurd (false≢true h)
  possible_from m (s ∷ steps) x form h = elim (or_cases (nat_eq (g s.0) x) (is_possible (renamed_steps g steps) x) h) [
    | inl here ↦ (s.0, form.0, eqb-true (g s.0) x here)
    | inr later ↦ possible_from m steps x form.3 later
  ]

  -- ---- sets

  has_same : (M : List ℕ) (e : ℕ) → IsWithin M a → IsTrue (has a e) → has (map g M) (g e) ≡ has M e
  has_same [] e within h = refl
  has_same (x ∷ M) e within h =
      ap₂ (λ y z. y || z) (same_test x e (within x (or_left (nat_eq x x) (has M x) (eq-eqb x x refl))) h) (has_same M e (λ y k. within y (or_right (nat_eq x y) (has M y) k)) h)

  member_from : (M : List ℕ) (x : ℕ) → IsTrue (has (map g M) x) → (e : ℕ) × IsTrue (has M e) × (g e ≡ x)
  member_from [] x h = absurd (false≢true h)
  member_from (y ∷ M) x h = elim (or_cases (nat_eq (g y) x) (has (map g M) x) h) [
    | inl here ↦ (y, or_left (nat_eq y y) (has M y) (eq-eqb y y refl), eqb-true (g y) x here)
    | inr later ↦ let l = member_from M x later in (l.0, or_right (nat_eq y l.0) (has M l.0) l.1, l.2)
  ]

  sets_within : (Ns : List (List ℕ)) (k : ℕ) → AreWithin a Ns → IsWithin (get_or Ns k []) a
  sets_within [] k w = λ e h. absurd (false≢true h)
  sets_within (N ∷ Ns) zero w = w.0
  sets_within (N ∷ Ns) (suc k) w = sets_within Ns k w.1

  within_there : (Ns : List (List ℕ)) (M : List ℕ) → AreWithin a Ns → IsWithin M a → HasWithin Ns M → HasWithin (map (map g) Ns) (map g M)
  within_there Ns M all w h = record {
    place = h.place;
    within = subst (λ n. h.place < n) (sym (length-map Ns (map g))) h.within;
    lies = subst (λ N. IsWithin N (map g M)) (sym (map-at (map g) Ns h.place []))
        (λ x k. let e = member_from (get_or Ns h.place []) x k in
        subst (λ y. IsTrue (has (map g M) y)) e.2 (has_same M e.0 w (sets_within Ns h.place all e.0 e.1) ∙ h.lies e.0 e.1));
  }

  within_back : (Ns : List (List ℕ)) (M : List ℕ) → AreWithin a Ns → IsWithin M a → HasWithin (map (map g) Ns) (map g M) → HasWithin Ns M
  within_back Ns M all w h = record {
    place = h.place;
    within = subst (λ n. h.place < n) (length-map Ns (map g)) h.within;
    lies = λ e k.
        let known : IsTrue (has a e) = sets_within Ns h.place all e k in
        let lies = subst (λ N. IsWithin N (map g M)) (map-at (map g) Ns h.place []) h.lies in
        sym (has_same M e w known) ∙ lies (g e) (has_same (get_or Ns h.place []) e (sets_within Ns h.place all) known ∙ k);
  }

  -- ---- runs

  node_same : (T : List Node) (n : ℕ) → node_at (renamed g T) n ≡ renamed_node g (node_at T n)
  node_same [] n = refl
  node_same (x ∷ T) zero = refl
  node_same (x ∷ T) (suc n) = node_same T n

  accept_form : (m : ℕ) (T : List Node) (n : ℕ) → NodesHaveForm a m T → AreWithin a (node_at T n).accept
  accept_form m [] n form = tt
  accept_form m (x ∷ T) zero form = form.1
  accept_form m (x ∷ T) (suc n) form = accept_form m T n form.2

  abbrev EventsIn : List ℕ → Type 0
  EventsIn [] = Unit {0}
  EventsIn (e ∷ s) = IsTrue (has a e) × EventsIn s

  module _ (m : ℕ) (T : List Node) (form : NodesHaveForm a m T) where
    abbrev U : List Node
    U = renamed g T

    steps_form : (n : ℕ) → StepsHaveForm a m (node_at T n).next
    steps_form n = node_form a m T n form

    run_events : (n : ℕ) (s : List ℕ) → is_run T n s ≡ true → EventsIn s
    run_events n [] run = tt
    run_events n (e ∷ s) run =
        let p = and_parts (is_possible (node_at T n).next e) (is_run T (node_after T n e) s) run in
        (possible_known a m (node_at T n).next e (steps_form n) p.0, run_events (node_after T n e) s p.1)

    possible_at : (n e : ℕ) → IsTrue (has a e) → is_possible (node_at U n).next (g e) ≡ is_possible (node_at T n).next e
    possible_at n e h = ap (λ (x : Node). is_possible x.next (g e)) (node_same T n) ∙ possible_same m (node_at T n).next e (steps_form n) h

    after_same : (n e : ℕ) → IsTrue (has a e) → node_after U n (g e) ≡ node_after T n e
    after_same n e h = ap (λ (x : Node). target x.next (g e)) (node_same T n) ∙ target_same m (node_at T n).next e (steps_form n) h

    run_same : (n : ℕ) (s : List ℕ) → EventsIn s → is_run U n (map g s) ≡ is_run T n s
    run_same n [] all = refl
    run_same n (e ∷ s) all =
        ap₂ (λ x y. x && y) (possible_at n e all.0) (ap (λ k. is_run U k (map g s)) (after_same n e all.0) ∙ run_same (node_after T n e) s all.1)

    end_same : (n : ℕ) (s : List ℕ) → EventsIn s → end_of U n (map g s) ≡ end_of T n s
    end_same n [] all = refl
    end_same n (e ∷ s) all = ap (λ k. end_of U k (map g s)) (after_same n e all.0) ∙ end_same (node_after T n e) s all.1

    run_from : (n : ℕ) (r : List ℕ) → is_run U n r ≡ true → (s : List ℕ) × EventsIn s × (map g s ≡ r)
    run_from n [] run = ([], tt, refl)
    run_from n (x ∷ r) run =
        let p = and_parts (is_possible (node_at U n).next x) (is_run U (node_after U n x) r) run in
        let e = possible_from m (node_at T n).next x (steps_form n) (subst (λ (y : Node). is_possible y.next x ≡ true) (node_same T n) p.0) in
        let more = run_from (node_after U n x) r p.1 in
        (e.0 ∷ more.0, (e.1, more.1), ap₂ (λ y z. y ∷ z) e.2 more.2)

    acceptances_same : (s : List ℕ) → EventsIn s → acceptances_after U (map g s) ≡ map (map g) (acceptances_after T s)
    acceptances_same s all = ap (λ n. (node_at U n).accept) (end_same 0 s all) ∙ ap (λ (x : Node). x.accept) (node_same T (end_of T 0 s))

    acceptances_within : (s : List ℕ) → AreWithin a (acceptances_after T s)
    acceptances_within s = accept_form m T (end_of T 0 s) form

  module _ (m k : ℕ) (T S : List Node) (form : NodesHaveForm a m T) (other : NodesHaveForm a k S) where
    run_is : (s r : List ℕ) → EventsIn s → map g s ≡ r → IsRun (renamed g T) r → IsRun T s
    run_is s r all is run = sym (run_same m T form 0 s all) ∙ subst (IsRun (renamed g T)) (sym is) run

    set_same : (s : List ℕ) (i : ℕ) → EventsIn s → get_or (acceptances_after (renamed g T) (map g s)) i [] ≡ map g (get_or (acceptances_after T s) i [])
    set_same s i all = ap (λ Ns. get_or Ns i []) (acceptances_same m T form s all) ∙ map-at (map g) (acceptances_after T s) i []

    count_same : (s : List ℕ) → EventsIn s → length (acceptances_after (renamed g T) (map g s)) ≡ length (acceptances_after T s)
    count_same s all = ap length (acceptances_same m T form s all) ∙ length-map (acceptances_after T s) (map g)

    pub there : TableConforms T S → TableConforms (renamed g T) (renamed g S)
    there h = record {
      runs = λ r run.
          let s = run_from m T form 0 r run in
          subst (IsRun (renamed g S)) s.2 (run_same k S other 0 s.0 s.1 ∙ h.runs s.0 (run_is s.0 r s.1 s.2 run));
      acceptances = λ r i run less.
          let s = run_from m T form 0 r run in
          subst (λ q. HasWithin (acceptances_after (renamed g S) q) (get_or (acceptances_after (renamed g T) q) i [])) s.2
          (subst (λ Ns. HasWithin Ns (get_or (acceptances_after (renamed g T) (map g s.0)) i [])) (sym (acceptances_same k S other s.0 s.1))
          (subst (HasWithin (map (map g) (acceptances_after S s.0))) (sym (set_same s.0 i s.1))
          (within_there (acceptances_after S s.0) (get_or (acceptances_after T s.0) i []) (acceptances_within k S other s.0) (sets_within (acceptances_after T s.0) i (acceptances_within m T form s.0))
          (h.acceptances s.0 i (run_is s.0 r s.1 s.2 run) (subst (λ n. i < n) (count_same s.0 s.1) (subst (λ q. i < length (acceptances_after (renamed g T) q)) (sym s.2) less))))));
    }

    pub back : TableConforms (renamed g T) (renamed g S) → TableConforms T S
    back h = record {
      runs = λ s run. let all = run_events m T form 0 s run in sym (run_same k S other 0 s all) ∙ h.runs (map g s) (run_same m T form 0 s all ∙ run);
      acceptances = λ s i run less.
          let all = run_events m T form 0 s run in
          within_back (acceptances_after S s) (get_or (acceptances_after T s) i []) (acceptances_within k S other s) (sets_within (acceptances_after T s) i (acceptances_within m T form s))
          (subst (HasWithin (map (map g) (acceptances_after S s))) (set_same s i all)
          (subst (λ Ns. HasWithin Ns (get_or (acceptances_after (renamed g T) (map g s)) i [])) (acceptances_same k S other s all)
          (h.acceptances (map g s) i (run_same m T form 0 s all ∙ run) (subst (λ n. i < n) (sym (count_same s all)) less))));
    }
