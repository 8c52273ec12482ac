-- In a well-nested tree the steps of the tree are the flat steps over its leaves, and a step keeps the nesting.
use Rattle.net_sound.proofs.Prelude.{◌≡◌, ℕ, inl, inr, List, [], ◌∷◌, ◌++◌, false, ◌||◌, refl, sym, ap, ap₂, subst, ◌∙◌, MatchBool-at_true, or_cases, or_left, false≢true, cases_Bool, has, or_regroup, Label, silent, visible, Component, ComponentStep, Tree, Operands, in_some_alphabet, NetworkStep, OneSilent, AllTogether, leaves, leaves_of_operands, leaf, parallel, none, operand, in_some_component, OneMoves, AllTakePart, FlatStep, WellNested, OperandsWellNested, StepsToLeaves, TreeStepsAreFlat, FlatStepsAreTreeSteps, StepsKeepNesting, StepsKeepAlphabets}
use Rattle.net_sound.proofs.FlatLists.{alphabets, by_test, match_true, match_false, moves_left, moves_right, all_append, all_stay, all_stayed, moves_split, all_split, flat_alphabets, same_some}

-- an event is in an operand's alphabet exactly where it is in a component's
some_append : {T : Type 0} (xs ys : List (Component T)) (e : ℕ) → in_some_component (xs ++ ys) e ≡ (in_some_component xs e || in_some_component ys e)
some_append [] ys e = refl
some_append (x ∷ xs) ys e = ap (λ b. has x.alphabet e || b) (some_append xs ys e) ∙ or_regroup (has x.alphabet e) (in_some_component xs e) (in_some_component ys e)

pub same_events : {T : Type 0} (os : Operands T) (e : ℕ) → OperandsWellNested os → in_some_alphabet os e ≡ in_some_component (leaves_of_operands os) e
same_events none e w = refl
same_events (operand a t os) e w = ap₂ (λ b c. b || c) (w.0 e) (same_events os e w.2) ∙ sym (some_append (leaves t) (leaves_of_operands os) e)

-- ---- from the tree to the list

leaf_part : {T : Type 0} (Step : T → Label → T → Type 0) (e : ℕ) (c d : Component T) → ComponentStep Step c (visible e) d → FlatStep Step (c ∷ []) (visible e) (d ∷ [])
leaf_part Step e c d h = (or_left (has c.alphabet e) false h.1, (match_true (has c.alphabet e) _ _ h.1 h, tt))

mutual
  pub forth : {T : Type 0} (Step : T → Label → T → Type 0) (t : Tree T) (l : Label) (u : Tree T) → WellNested t → NetworkStep Step t l u → FlatStep Step (leaves t) l (leaves u)
  forth Step (leaf c) silent (leaf d) w h = inl (h, refl)
  forth Step (leaf c) (visible e) (leaf d) w h = leaf_part Step e c d h
  forth Step (parallel os) silent (parallel qs) w h = forth_silent Step os qs w h
  forth Step (parallel os) (visible e) (parallel qs) w h = (sym (same_events os e w) ∙ h.0, forth_visible Step e os qs w h.1)
  forth Step _ _ _ w h = absurd h

  forth_silent : {T : Type 0} (Step : T → Label → T → Type 0) (os qs : Operands T) → OperandsWellNested os → OneSilent Step os qs → OneMoves Step (leaves_of_operands os) (leaves_of_operands qs)
  forth_silent Step (operand a t os) (operand b u qs) w h =
      elim h.1 [
        | inl k ↦ subst (λ zs. OneMoves Step (leaves t ++ leaves_of_operands os) (leaves u ++ zs)) (ap leaves_of_operands k.1) (moves_left Step (leaves t) (leaves u) (leaves_of_operands os) (forth Step t silent u w.1 k.0))
        | inr k ↦ subst (λ v. OneMoves Step (leaves t ++ leaves_of_operands os) (leaves v ++ leaves_of_operands qs)) k.0 (moves_right Step (leaves t) (leaves_of_operands os) (leaves_of_operands qs) (forth_silent Step os qs w.2 k.1))
      ]
  forth_silent Step _ _ w h = absurd h

  forth_visible : {T : Type 0} (Step : T → Label → T → Type 0) (e : ℕ) (os qs : Operands T) → OperandsWellNested os → AllTogether Step e os qs → AllTakePart Step e (leaves_of_operands os) (leaves_of_operands qs)
  forth_visible Step e none none w h = tt
  forth_visible Step e (operand a t os) (operand b u qs) w h =
      all_append Step e (leaves t) (leaves u) (leaves_of_operands os) (leaves_of_operands qs)
      (elim (by_test (has a e) h.1) [
        | inl k ↦ (forth Step t (visible e) u w.1 k.1).1
        | inr k ↦ subst (λ v. AllTakePart Step e (leaves t) (leaves v)) k.1 (all_stay Step e (leaves t) (sym (w.0 e) ∙ k.0))
      ])
      (forth_visible Step e os qs w.2 h.2)
  forth_visible Step e _ _ w h = absurd h

-- ---- from the list to the tree

record BackSilent {T : Type 0} (Step : T → Label → T → Type 0) (os : Operands T) (ds : List (Component T)) : Type 0 where
  operands : Operands T
  whole : leaves_of_operands operands ≡ ds
  step : OneSilent Step os operands

record BackVisible {T : Type 0} (Step : T → Label → T → Type 0) (e : ℕ) (os : Operands T) (ds : List (Component T)) : Type 0 where
  operands : Operands T
  whole : leaves_of_operands operands ≡ ds
  step : AllTogether Step e os operands

leaf_back : {T : Type 0} (Step : T → Label → T → Type 0) (c : Component T) (l : Label) (ds : List (Component T)) → FlatStep Step (c ∷ []) l ds → StepsToLeaves Step (leaf c) l ds
leaf_back Step c silent [] h = absurd h
leaf_back Step c silent (d ∷ ds) (inl h) = record { tree = leaf d; whole = ap (λ ws. d ∷ ws) h.1; step = h.0 }
leaf_back Step c silent (d ∷ ds) (inr h) = absurd h.1
leaf_back Step c (visible e) [] h = absurd h.1
leaf_back Step c (visible e) (d ∷ d' ∷ ds) h = absurd h.1.1
leaf_back Step c (visible e) (d ∷ []) h =
    elim (or_cases (has c.alphabet e) false h.0) [
      | inl owned ↦ record { tree = leaf d; whole = refl; step = MatchBool-at_true _ _ owned h.1.0 }
      | inr never ↦ absurd (false≢true never)
    ]

mutual
  pub back : {T : Type 0} (Step : T → Label → T → Type 0) (t : Tree T) (l : Label) (ds : List (Component T)) → WellNested t → FlatStep Step (leaves t) l ds → StepsToLeaves Step t l ds
  back Step (leaf c) l ds w h = leaf_back Step c l ds h
  back Step (parallel os) silent ds w h =
      let r = back_silent Step os ds w h in
      record { tree = parallel r.operands; whole = r.whole; step = r.step }
  back Step (parallel os) (visible e) ds w h =
      let r = back_visible Step e os ds w h.1 in
      record { tree = parallel r.operands; whole = r.whole; step = (same_events os e w ∙ h.0, r.step) }

  back_silent : {T : Type 0} (Step : T → Label → T → Type 0) (os : Operands T) (ds : List (Component T)) → OperandsWellNested os → OneMoves Step (leaves_of_operands os) ds → BackSilent Step os ds
  back_silent Step none ds w h = absurd h
  back_silent Step (operand a t os) ds w h =
      elim (moves_split Step (leaves t) (leaves_of_operands os) ds h) [
        | inl m ↦
            let r = back Step t silent m.front w.1 m.moves in
            record { operands = operand a r.tree os; whole = ap (λ ws. ws ++ leaves_of_operands os) r.whole ∙ m.whole; step = (refl, inl (r.step, refl)) }
        | inr m ↦
            let r = back_silent Step os m.back w.2 m.moves in
            record { operands = operand a t r.operands; whole = ap (λ ws. leaves t ++ ws) r.whole ∙ m.whole; step = (refl, inr (refl, r.step)) }
      ]

  back_visible : {T : Type 0} (Step : T → Label → T → Type 0) (e : ℕ) (os : Operands T) (ds : List (Component T)) → OperandsWellNested os → AllTakePart Step e (leaves_of_operands os) ds → BackVisible Step e os ds
  back_visible Step e none [] w h = record { operands = none; whole = refl; step = tt }
  back_visible Step e none (d ∷ ds) w h = absurd h
  back_visible Step e (operand a t os) ds w h =
      let s = all_split Step e (leaves t) (leaves_of_operands os) ds h in
      let r = back_visible Step e os s.back w.2 s.right in
      elim (cases_Bool (has a e)) [
        | inl k ↦
            let q = back Step t (visible e) s.front w.1 (sym (w.0 e) ∙ k, s.left) in
            record { operands = operand a q.tree r.operands; whole = ap₂ (λ x y. x ++ y) q.whole r.whole ∙ s.whole; step = (refl, match_true (has a e) _ _ k q.step, r.step) }
        | inr k ↦
            record { operands = operand a t r.operands; whole = ap₂ (λ x y. x ++ y) (all_stayed Step e (leaves t) s.front (sym (w.0 e) ∙ k) s.left) r.whole ∙ s.whole; step = (refl, match_false (has a e) _ _ k refl, r.step) }
      ]

-- ---- what a step keeps

pub step_alphabets : {T : Type 0} (Step : T → Label → T → Type 0) (t : Tree T) (l : Label) (u : Tree T) → WellNested t → NetworkStep Step t l u → alphabets (leaves t) ≡ alphabets (leaves u)
step_alphabets Step t l u w h = flat_alphabets Step (leaves t) l (leaves u) (forth Step t l u w h)

-- the alphabet of an operand still has the members of its leaves' alphabets
still : {T : Type 0} (a b : List ℕ) (t u : Tree T) → a ≡ b → alphabets (leaves t) ≡ alphabets (leaves u) → ((e : ℕ) → has a e ≡ in_some_component (leaves t) e) → (e : ℕ) → has b e ≡ in_some_component (leaves u) e
still a b t u same h w e = ap (λ x. has x e) (sym same) ∙ w e ∙ same_some (leaves t) (leaves u) e h

mutual
  pub kept : {T : Type 0} (Step : T → Label → T → Type 0) (t : Tree T) (l : Label) (u : Tree T) → WellNested t → NetworkStep Step t l u → WellNested u
  kept Step (leaf c) l (leaf d) w h = tt
  kept Step (parallel os) silent (parallel qs) w h = kept_silent Step os qs w h
  kept Step (parallel os) (visible e) (parallel qs) w h = kept_visible Step e os qs w h.1
  kept Step _ _ _ w h = absurd h

  kept_silent : {T : Type 0} (Step : T → Label → T → Type 0) (os qs : Operands T) → OperandsWellNested os → OneSilent Step os qs → OperandsWellNested qs
  kept_silent Step (operand a t os) (operand b u qs) w h =
      elim h.1 [
        | inl k ↦ (still a b t u h.0 (step_alphabets Step t silent u w.1 k.0) w.0, kept Step t silent u w.1 k.0, subst OperandsWellNested k.1 w.2)
        | inr k ↦ (still a b t u h.0 (ap (λ v. alphabets (leaves v)) k.0) w.0, subst WellNested k.0 w.1, kept_silent Step os qs w.2 k.1)
      ]
  kept_silent Step _ _ w h = absurd h

  kept_visible : {T : Type 0} (Step : T → Label → T → Type 0) (e : ℕ) (os qs : Operands T) → OperandsWellNested os → AllTogether Step e os qs → OperandsWellNested qs
  kept_visible Step e none none w h = tt
  kept_visible Step e (operand a t os) (operand b u qs) w h =
      elim (by_test (has a e) h.1) [
        | inl k ↦ (still a b t u h.0 (step_alphabets Step t (visible e) u w.1 k.1) w.0, kept Step t (visible e) u w.1 k.1, kept_visible Step e os qs w.2 h.2)
        | inr k ↦ (still a b t u h.0 (ap (λ v. alphabets (leaves v)) k.1) w.0, subst WellNested k.1 w.1, kept_visible Step e os qs w.2 h.2)
      ]
  kept_visible Step e _ _ w h = absurd h

-- ---- the laws

pub tree_steps_are_flat : {T : Type 0} (Step : T → Label → T → Type 0) → TreeStepsAreFlat Step
tree_steps_are_flat Step t u l w h = forth Step t l u w h

pub flat_steps_are_tree_steps : {T : Type 0} (Step : T → Label → T → Type 0) → FlatStepsAreTreeSteps Step
flat_steps_are_tree_steps Step t l cs w h = back Step t l cs w h

pub steps_keep_nesting : {T : Type 0} (Step : T → Label → T → Type 0) → StepsKeepNesting Step
steps_keep_nesting Step t u l w h = kept Step t l u w h

pub steps_keep_alphabets : {T : Type 0} (Step : T → Label → T → Type 0) → StepsKeepAlphabets Step
steps_keep_alphabets Step t u l w h = step_alphabets Step t l u w h
