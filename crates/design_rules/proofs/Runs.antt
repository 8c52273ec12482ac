-- Runs of a table, one event after another at their end.
use Rattle.design_rules.proofs.Prelude.{◌≡◌, ℕ, ◌+◌, ◌<◌, ◌≤◌, inl, inr, List, [], ◌∷◌, ◌++◌, length, get_or, Bool, true, false, IsTrue, nat_eq, refl, sym, subst, arith, append_assoc, append-nil, and_parts, or_cases, eqb-true, false≢true, cases_Bool, cond-true, cond-false, both_ways, has, Node, node_at, is_possible, target, node_after, is_run, IsRun, end_of, Part, HasForm, StepsHaveForm, laps_from, lap_of, run_push, end_push, node_form}

abbrev pub possible_after : List Node → List ℕ → ℕ → Bool
possible_after table u e = is_possible (node_at table (end_of table 0 u)).next e

pub laps_push : (table : List Node) (laps : List (List ℕ)) (n : ℕ) (u : List ℕ) (e : ℕ) → laps_from table laps n (u ++ e ∷ []) ≡ laps_from table laps n u + lap_of (node_at table (end_of table n u)).next (get_or laps (end_of table n u) []) e
laps_push table laps n [] e = omega arith
laps_push table laps n (x ∷ u) e = omega (arith, laps_push table laps (node_after table n x) u e)

-- What holds of the empty run, and of a run with one more event where it holds of the run, holds of each run.
pub run_induction : (table : List Node) (P : List ℕ → Type 0) → P [] → ((u : List ℕ) (e : ℕ) → IsRun table u → IsTrue (possible_after table u e) → P u → P (u ++ e ∷ [])) → (s : List ℕ) → IsRun table s → P s
run_induction table P base step s h = go [] s refl base h
  where
    go : (u s : List ℕ) → IsRun table u → P u → is_run table (end_of table 0 u) s ≡ true → P (u ++ s)
    go u [] r p h = subst P (sym (append-nil u)) p
    go u (e ∷ s) r p h =
        let q = and_parts (possible_after table u e) (is_run table (node_after table (end_of table 0 u) e) s) h in
        subst P (append_assoc u (e ∷ []) s)
        (go (u ++ e ∷ []) s (run_push table 0 u e r q.0) (step u e r q.0 p) (subst (λ n. is_run table n s ≡ true) (sym (end_push table 0 u e)) q.1))

-- ---- the form of a table

step_form : (a : List ℕ) (m : ℕ) (steps : List (ℕ × ℕ)) (e : ℕ) → StepsHaveForm a m steps → is_possible steps e ≡ true → IsTrue (has a e) × (target steps e < m)
step_form a m [] e form h = absurd (false≢true h)
step_form a m (step ∷ steps) e form h =
    elim (cases_Bool (nat_eq step.0 e)) [
      | inl same ↦ (subst (λ x. IsTrue (has a x)) (eqb-true step.0 e same) form.0, subst (λ x. x < m) (sym (cond-true (nat_eq step.0 e) step.1 (target steps e) same)) form.1)
      | inr other ↦
          let r = step_form a m steps e form.3 (later other) in
          (r.0, subst (λ x. x < m) (sym (cond-false (nat_eq step.0 e) step.1 (target steps e) other)) r.1)
    ]
  where
    later : nat_eq step.0 e ≡ false → is_possible steps e ≡ true
    later other = elim (or_cases (nat_eq step.0 e) (is_possible steps e) h) [ inl k ↦ absurd (both_ways _ other k) | inr k ↦ k ]

-- a possible event is of the alphabet
pub possible_within : (p : Part) (n e : ℕ) → HasForm p → IsTrue (is_possible (node_at p.table n).next e) → IsTrue (has p.alphabet e)
possible_within p n e form h = (step_form p.alphabet (length p.table) (node_at p.table n).next e (node_form p.alphabet (length p.table) p.table n form.nodes) h).0

-- a run leads to a node of the table
pub end_within : (p : Part) (s : List ℕ) → HasForm p → IsRun p.table s → end_of p.table 0 s < length p.table
end_within p s form h =
    run_induction p.table (λ u. end_of p.table 0 u < length p.table) (let l : 1 ≤ length p.table = form.least in omega arith)
    (λ u e r k b. subst (λ n. n < length p.table) (sym (end_push p.table 0 u e)) (step_form p.alphabet (length p.table) (node_at p.table (end_of p.table 0 u)).next e (node_form p.alphabet (length p.table) p.table (end_of p.table 0 u) form.nodes) k).1)
    s h
