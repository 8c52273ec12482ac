-- The different processes to which a process goes by a label.
use Rattle.csp_steps.proofs.Prelude.{◌≡◌, ◌⊎◌, inl, inr, Bool, true, false, cond, Ok, List, [], ◌∷◌, refl, ap, sym, ◌∙◌, subst, eq-eqb, eqb-true, false≢true, StandsIn, Outcome, Proc, Content, ProcessStep, Move, steps_of, Silent, Visible, Tick, seen, AreFirsts, AreFirstsAfter, AreTargets, goals, is_by, none, again, first, silent, visible, lists_are}
use Rattle.csp_tables.specs.Prelude.{Label}
use Rattle.process_steps.specs.declared.label.Label.{Label as ProcessLabel}
use Rattle.csp_steps.proofs.Firsts.{firsts_back, firsts_one, firsts_there, stands_cases, stands_first, stands_later, stands_none}

-- ---- steps by a label

pub by_same : (l : Label) (a b : ProcessLabel) → is_by l a ≡ true → is_by l b ≡ true → a ≡ b
by_same silent Silent Silent h g = refl
by_same silent Silent (Visible d) h g = absurd (false≢true g)
by_same silent Silent Tick h g = absurd (false≢true g)
by_same silent (Visible d) b h g = absurd (false≢true h)
by_same silent Tick b h g = absurd (false≢true h)
by_same (visible e) Silent b h g = absurd (false≢true h)
by_same (visible e) (Visible d) Silent h g = absurd (false≢true g)
by_same (visible e) (Visible d) (Visible c) h g = ap (λ n. Visible n) (sym (eqb-true e d h) ∙ eqb-true e c g)
by_same (visible e) (Visible d) Tick h g = absurd (false≢true g)
by_same (visible e) Tick b h g = absurd (false≢true h)

-- a step by the label to the process stands in the list
pub record HasGoal (l : Label) (moves : List Move) (u : Proc) : Type 0 where
  pub label : ProcessLabel
  pub by : is_by l label ≡ true
  pub stands : StandsIn moves (label, u)

goal_later : (l : Label) (m : Move) (moves : List Move) (u : Proc) → HasGoal l moves u → HasGoal l (m ∷ moves) u
goal_later l m moves u h = record { label = h.label; by = h.by; stands = stands_later m (h.label, u) moves h.stands }

pub goal_has : (l : Label) (moves : List Move) (u : Proc) → StandsIn (goals l moves) u → HasGoal l moves u
goal_has l [] u h = absurd (stands_none u h)
goal_has l (m ∷ moves) u h = cases (goal_has l moves u) (is_by l m.0) refl h
  where
    cases : (StandsIn (goals l moves) u → HasGoal l moves u) → (b : Bool) → is_by l m.0 ≡ b → StandsIn (cond b (m.1 ∷ goals l moves) (goals l moves)) u → HasGoal l (m ∷ moves) u
    cases others true e h = elim (stands_cases m.1 u (goals l moves) h) [
      | inl same ↦ record { label = m.0; by = e; stands = stands_first m (m.0, u) moves (λ i. (m.0, same i)) }
      | inr later ↦ goal_later l m moves u (others later)
    ]
    cases others false e h = goal_later l m moves u (others h)

pub has_goal : (l : Label) (moves : List Move) (k : ProcessLabel) (u : Proc) → is_by l k ≡ true → StandsIn moves (k, u) → StandsIn (goals l moves) u
has_goal l [] k u is h = absurd (stands_none (k, u) h)
has_goal l (m ∷ moves) k u is h = cases (has_goal l moves k u is) (is_by l m.0) refl (stands_cases m (k, u) moves h)
  where
    cases : (StandsIn moves (k, u) → StandsIn (goals l moves) u) → (b : Bool) → is_by l m.0 ≡ b → (m ≡ (k, u)) ⊎ StandsIn moves (k, u) → StandsIn (cond b (m.1 ∷ goals l moves) (goals l moves)) u
    cases others true e (inl same) = stands_first m.1 u (goals l moves) (ap (λ (n : Move). n.1) same)
    cases others true e (inr later) = stands_later m.1 u (goals l moves) (others later)
    cases others false e (inl same) = absurd (false≢true (sym e ∙ ap (λ (n : Move). is_by l n.0) same ∙ is))
    cases others false e (inr later) = others later

-- ---- of the firsts of a list, the goals by a label are the firsts of the list's

pub firsts_goals : (l : Label) (xs seen ys : List Move) → AreFirstsAfter xs seen ys → AreFirstsAfter (goals l xs) (goals l seen) (goals l ys)
firsts_goals l [] seen ys (none a) = none (goals l seen)
firsts_goals l (m ∷ xs) seen ys (again a b c d h r) = cases (is_by l m.0) refl (firsts_goals l xs seen ys r)
  where
    cases : (t : Bool) → is_by l m.0 ≡ t → AreFirstsAfter (goals l xs) (goals l seen) (goals l ys) → AreFirstsAfter (cond t (m.1 ∷ goals l xs) (goals l xs)) (goals l seen) (goals l ys)
    cases true e rest = again m.1 (goals l xs) (goals l seen) (goals l ys) (has_goal l seen m.0 m.1 e h) rest
    cases false e rest = rest
firsts_goals l (m ∷ xs) seen ys (first a b c d h r) = cases (is_by l m.0) refl (firsts_goals l xs (m ∷ seen) d r)
  where
    new : is_by l m.0 ≡ true → StandsIn (goals l seen) m.1 → ⊥
    new e s =
        let g = goal_has l seen m.1 s in
        h (subst (λ k. StandsIn seen (k, m.1)) (by_same l g.label m.0 g.by e) g.stands)

    cases : (t : Bool) → is_by l m.0 ≡ t → AreFirstsAfter (goals l xs) (cond t (m.1 ∷ goals l seen) (goals l seen)) (goals l d)
        → AreFirstsAfter (cond t (m.1 ∷ goals l xs) (goals l xs)) (goals l seen) (cond t (m.1 ∷ goals l d) (goals l d))
    cases true e rest = first m.1 (goals l xs) (goals l seen) (goals l d) (new e) rest
    cases false e rest = rest

-- ---- the targets of a process

-- they are one list
pub targets_one : (p : Content) (t : Proc) (l : Label) (us vs : List Proc) → AreTargets p t l us → AreTargets p t l vs → us ≡ vs
targets_one p t l us vs h g =
    let same : h.moves ≡ g.moves = one_list h.moves g.moves (steps_of p t) h.has g.has in
    firsts_one (goals l h.moves) [] us vs h.firsts (subst (λ ms. AreFirsts (goals l ms) vs) (sym same) g.firsts)
  where
    one_list : (xs ys : List Move) (o : Outcome (List Move)) → o ≡ Ok xs → o ≡ Ok ys → xs ≡ ys
    one_list xs ys o h g = cc

-- and those to which the process has a step
pub target_step : (p : Content) (t : Proc) (l : Label) (us : List Proc) → AreTargets p t l us → (u : Proc) → StandsIn us u → ProcessStep p t l u
target_step p t silent us h u s =
    let g = goal_has silent h.moves u (firsts_back (goals silent h.moves) [] us h.firsts u s) in
    (lists_are p t h.moves h.has Silent u).0 (subst (λ k. StandsIn h.moves (k, u)) (by_same silent g.label Silent g.by refl) g.stands)
target_step p t (visible e) us h u s =
    let g = goal_has (visible e) h.moves u (firsts_back (goals (visible e) h.moves) [] us h.firsts u s) in
    (lists_are p t h.moves h.has (Visible e) u).0 (subst (λ k. StandsIn h.moves (k, u)) (by_same (visible e) g.label (Visible e) g.by (eq-eqb e e refl)) g.stands)

stands_left_out : {X : Type 0} (ys : List X) (x : X) → StandsIn [] x ⊎ StandsIn ys x → StandsIn ys x
stands_left_out ys x (inl h) = absurd (stands_none x h)
stands_left_out ys x (inr h) = h

pub step_target : (p : Content) (t : Proc) (l : Label) (us : List Proc) → AreTargets p t l us → (u : Proc) → ProcessStep p t l u → StandsIn us u
step_target p t silent us h u s =
    stands_left_out us u (firsts_there (goals silent h.moves) [] us h.firsts u (has_goal silent h.moves Silent u refl ((lists_are p t h.moves h.has Silent u).1 s)))
step_target p t (visible e) us h u s =
    stands_left_out us u (firsts_there (goals (visible e) h.moves) [] us h.firsts u (has_goal (visible e) h.moves (Visible e) u (eq-eqb e e refl) ((lists_are p t h.moves h.has (Visible e) u).1 s)))
