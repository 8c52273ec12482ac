-- Runs that lead to pairs: one more event, and the steps of a node.
use Rattle.observed_runs.proofs.Prelude.{◌≡◌, ℕ, zero, suc, ◌+◌, ◌-◌, ◌<◌, List, [], ◌∷◌, ◌++◌, length, get_or, true, false, IsTrue, nat_eq, refl, sym, ap, subst, ◌∙◌, arith, inl, inr, eq-eqb, or_cases, or_left, or_right, eqb-true, false≢true, cases_Bool, cond-true, cond-false, both_ways, reverse-append, append_assoc, Node, node_at, is_possible, target, node_after, BeginsAbove, StepsHaveForm, observed, LeadsTo, pair_at, AreFound, StepsTo, reverse, run_push, end_push}

pub observed_push : (step : ℕ → ℕ → ℕ) (state : ℕ) (u : List ℕ) (e : ℕ) → observed step state (u ++ e ∷ []) ≡ step (observed step state u) e
observed_push step state [] e = refl
observed_push step state (x ∷ u) e = observed_push step (step state x) u e

-- a run with one more event leads one step on
pub leads_on : (table : List Node) (step : ℕ → ℕ → ℕ) (start : ℕ) (s : List ℕ) (from to : ℕ × ℕ) (e : ℕ) → LeadsTo table step start s from → StepsTo table step from e to → LeadsTo table step start (s ++ e ∷ []) to
leads_on table step start s from to e l t = record {
  follows = run_push table 0 s e l.follows (subst (λ n. is_possible (node_at table n).next e ≡ true) (sym l.node) t.possible);
  node = end_push table 0 s e ∙ ap (λ n. node_after table n e) l.node ∙ sym t.node;
  state = observed_push step start s e ∙ ap (λ n. step n e) l.state ∙ sym t.state;
}

-- the empty run leads to the first node
pub leads_nowhere : (table : List Node) (step : ℕ → ℕ → ℕ) (start : ℕ) (pair : ℕ × ℕ) → pair ≡ (0, start) → LeadsTo table step start [] pair
leads_nowhere table step start pair is = record { follows = refl; node = sym (ap (λ (p : ℕ × ℕ). p.0) is); state = sym (ap (λ (p : ℕ × ℕ). p.1) is) }

-- where a pair but the first was found
pub found_from : (table : List Node) (step : ℕ → ℕ → ℕ) (start : ℕ) (pairs origins : List (ℕ × ℕ)) (at : ℕ) (o : ℕ × ℕ) → AreFound table step start (record { pairs = pairs; origins = origins }) → 0 < at → at - 1 < length origins → o ≡ pair_at origins (at - 1) → StepsTo table step (pair_at pairs o.0) o.1 (pair_at pairs at)
found_from table step start pairs origins at o f some within is =
    let e : at - 1 + 1 ≡ at = omega arith in
    subst (λ k. StepsTo table step (pair_at pairs o.0) o.1 (pair_at pairs k)) e (subst (λ (p : ℕ × ℕ). StepsTo table step (pair_at pairs p.0) p.1 (pair_at pairs (at - 1 + 1))) (sym is) (f.later (at - 1) within))

-- one event earlier
pub back_one : (table : List Node) (step : ℕ → ℕ → ℕ) (start : ℕ) (pairs : List (ℕ × ℕ)) (at : ℕ) (o : ℕ × ℕ) (events : List ℕ) (to : ℕ × ℕ) → StepsTo table step (pair_at pairs o.0) o.1 (pair_at pairs at) → ((s : List ℕ) → LeadsTo table step start s (pair_at pairs at) → LeadsTo table step start (s ++ reverse events) to) → (s : List ℕ) → LeadsTo table step start s (pair_at pairs o.0) → LeadsTo table step start (s ++ reverse (events ++ o.1 ∷ [])) to
back_one table step start pairs at o events to t rest s l =
    let whole : (s ++ o.1 ∷ []) ++ reverse events ≡ s ++ reverse (events ++ o.1 ∷ []) = append_assoc s (o.1 ∷ []) (reverse events) ∙ ap (λ zs. s ++ zs) (sym (reverse-append events (o.1 ∷ []))) in
    subst (λ zs. LeadsTo table step start zs to) whole (rest (s ++ o.1 ∷ []) (leads_on table step start s (pair_at pairs o.0) (pair_at pairs at) o.1 l t))

-- ---- the steps of a node

-- a step that is listed
pub record IsStep (steps : List (ℕ × ℕ)) (e to : ℕ) : Type 0 where
  pub possible : IsTrue (is_possible steps e)
  pub leads : target steps e ≡ to

above : (a : List ℕ) (m e x : ℕ) (steps : List (ℕ × ℕ)) → BeginsAbove e steps → StepsHaveForm a m steps → is_possible steps x ≡ true → e < x
above a m e x [] b form h = absurd (false≢true h)
above a m e x (step ∷ steps) b form h =
    elim (or_cases (nat_eq step.0 x) (is_possible steps x) h) [
      | inl same ↦ let is : step.0 ≡ x = eqb-true step.0 x same in let more : e < step.0 = b in omega arith
      | inr later ↦ let more : e < step.0 = b in let rest : step.0 < x = above a m step.0 x steps form.2 form.3 later in omega arith
    ]

pub step_listed : (a : List ℕ) (m : ℕ) (steps : List (ℕ × ℕ)) (k : ℕ) → StepsHaveForm a m steps → k < length steps → IsStep steps (get_or steps k (0, 0)).0 (get_or steps k (0, 0)).1
step_listed a m [] k form h = absurd (omega arith)
step_listed a m (step ∷ steps) zero form h = record {
  possible = or_left (nat_eq step.0 step.0) (is_possible steps step.0) (eq-eqb step.0 step.0 refl);
  leads = cond-true (nat_eq step.0 step.0) step.1 (target steps step.0) (eq-eqb step.0 step.0 refl);
}
step_listed a m (step ∷ steps) (suc k) form h =
    let x : ℕ = (get_or steps k (0, 0)).0 in
    let rest = step_listed a m steps k form.3 (omega arith) in
    record {
      possible = or_right (nat_eq step.0 x) (is_possible steps x) rest.possible;
      leads = cond-false (nat_eq step.0 x) step.1 (target steps x) (other x (above a m step.0 x steps form.2 form.3 rest.possible)) ∙ rest.leads;
    }
  where
    other : (x : ℕ) → step.0 < x → nat_eq step.0 x ≡ false
    other x less = elim (cases_Bool (nat_eq step.0 x)) [ inl same ↦ absurd (let is : step.0 ≡ x = eqb-true step.0 x same in omega arith) | inr k ↦ k ]

pub step_within : (a : List ℕ) (m : ℕ) (steps : List (ℕ × ℕ)) (k : ℕ) → StepsHaveForm a m steps → k < length steps → (get_or steps k (0, 0)).1 < m
step_within a m [] k form h = absurd (omega arith)
step_within a m (step ∷ steps) zero form h = form.1
step_within a m (step ∷ steps) (suc k) form h = step_within a m steps k form.3 (omega arith)

-- where a possible event is listed
pub record IsListedStep (steps : List (ℕ × ℕ)) (e : ℕ) : Type 0 where
  pub place : ℕ
  pub within : place < length steps
  pub event : (get_or steps place (0, 0)).0 ≡ e
  pub leads : (get_or steps place (0, 0)).1 ≡ target steps e

pub listed_step : (steps : List (ℕ × ℕ)) (e : ℕ) → is_possible steps e ≡ true → IsListedStep steps e
listed_step [] e h = absurd (false≢true h)
listed_step (step ∷ steps) e h =
    elim (cases_Bool (nat_eq step.0 e)) [
      | inl same ↦ record { place = 0; within = omega arith; event = eqb-true step.0 e same; leads = sym (cond-true (nat_eq step.0 e) step.1 (target steps e) same) }
      | inr other ↦
          let rest = listed_step steps e (elim (or_cases (nat_eq step.0 e) (is_possible steps e) h) [ inl k ↦ absurd (both_ways (nat_eq step.0 e) other k) | inr k ↦ k ]) in
          record { place = suc rest.place; within = let l : rest.place < length steps = rest.within in omega arith; event = rest.event; leads = rest.leads ∙ sym (cond-false (nat_eq step.0 e) step.1 (target steps e) other) }
    ]
