-- A table that follows the runs of another one: where it stands, and what the pairs to which runs lead say of both.
use Rattle.conformance.proofs.Prelude.{◌≡◌, ℕ, ◌<◌, ◌≤◌, inl, inr, List, [], ◌∷◌, ◌++◌, length, get_or, true, false, IsTrue, nat_eq, Option, Some, None, refl, sym, ap, subst, ◌∙◌, arith, slice_get, and_from, and_parts, cases_Bool, cond-true, cond-false, eqb-true, false≢true, get_or_past, get_or_from_slice_get, or_cases, slice_get_cases, has, HasForm, StepsHaveForm, Part, Node, IsRun, acceptances_after, end_of, is_possible, is_run, no_node, node_after, node_at, node_form, run_push, Found, IsExploration, StepsTo, LeadsTo, observed, pair_at, listed_step, step_within, HasWithin, RefusesAfter, RunsOutside, TableConforms, AllAccept, AreInside, RefusesAt, follow_step}

-- ---- nodes

pub past_end : (table : List Node) (n : ℕ) → slice_get table n ≡ None → length table ≤ n
past_end table n none = elim (slice_get_cases table n).1 [ inl x ↦ absurd (let no : ◌≡◌ {A = Option Node} None (Some x.0) = sym none ∙ x.2 in cc) | inr x ↦ x.0 ]

pub steps_form : (p : Part) (n : ℕ) (node : Node) → HasForm p → slice_get p.table n ≡ Some node → StepsHaveForm p.alphabet (length p.table) node.next
steps_form p n node form at = subst (λ (x : Node). StepsHaveForm p.alphabet (length p.table) x.next) (get_or_from_slice_get p.table n node no_node at) (node_form p.alphabet (length p.table) p.table n form.nodes)

pub possible_known : (a : List ℕ) (m : ℕ) (steps : List (ℕ × ℕ)) (e : ℕ) → StepsHaveForm a m steps → is_possible steps e ≡ true → has a e ≡ true
possible_known a m [] e form h = absurd (false≢true h)
possible_known a m (s ∷ steps) e form h = elim (or_cases (nat_eq s.0 e) (is_possible steps e) h) [
  | inl here ↦ subst (λ x. IsTrue (has a x)) (eqb-true s.0 e here) form.0
  | inr later ↦ possible_known a m steps e form.3 later
]

module _ (p : Part) (form : HasForm p) where
  of_form : (n : ℕ) → StepsHaveForm p.alphabet (length p.table) (node_at p.table n).next
  of_form n = node_form p.alphabet (length p.table) p.table n form.nodes

  event_known : (n e : ℕ) → is_possible (node_at p.table n).next e ≡ true → has p.alphabet e ≡ true
  event_known n e h = possible_known p.alphabet (length p.table) (node_at p.table n).next e (of_form n) h

  after_within : (n e : ℕ) → is_possible (node_at p.table n).next e ≡ true → node_after p.table n e < length p.table
  after_within n e h =
      let at = listed_step (node_at p.table n).next e h in
      subst (λ x. x < length p.table) at.leads (step_within p.alphabet (length p.table) (node_at p.table n).next at.place (of_form n) at.within)

  first_within : 0 < length p.table
  first_within = let l : 1 ≤ length p.table = form.least in omega arith

run_last : (table : List Node) (n : ℕ) (s : List ℕ) (e : ℕ) → is_run table n (s ++ e ∷ []) ≡ true → is_possible (node_at table (end_of table n s)).next e ≡ true
run_last table n [] e h = (and_parts (is_possible (node_at table n).next e) true h).0
run_last table n (x ∷ s) e h = run_last table (node_after table n x) s e (and_parts (is_possible (node_at table n).next x) (is_run table (node_after table n x) (s ++ e ∷ [])) h).1

-- ---- the follower

module _ (p q : Part) (form : HasForm p) (other : HasForm q) where
  step_on : (n m e : ℕ) → is_possible (node_at p.table n).next e ≡ true → is_possible (node_at q.table m).next e ≡ true → follow_step p.alphabet q.table m e ≡ node_after q.table m e
  step_on n m e here there =
      cond-true (has p.alphabet e) _ _ (event_known p form n e here) ∙ cond-true (is_possible (node_at q.table m).next e) _ _ there

  step_out : (n m e : ℕ) → is_possible (node_at p.table n).next e ≡ true → is_possible (node_at q.table m).next e ≡ false → follow_step p.alphabet q.table m e ≡ length q.table
  step_out n m e here there =
      cond-true (has p.alphabet e) _ _ (event_known p form n e here) ∙ cond-false (is_possible (node_at q.table m).next e) _ _ there

  -- past the end there is no way back
  step_past : (e : ℕ) → follow_step p.alphabet q.table (length q.table) e ≡ length q.table
  step_past e =
      let none : is_possible (node_at q.table (length q.table)).next e ≡ false = ap (λ (node : Node). is_possible node.next e) (get_or_past q.table (length q.table) no_node (omega arith)) in
      elim (cases_Bool (has p.alphabet e)) [
        | inl known ↦ cond-true (has p.alphabet e) _ _ known ∙ cond-false (is_possible (node_at q.table (length q.table)).next e) _ _ none
        | inr unknown ↦ cond-false (has p.alphabet e) _ _ unknown
      ]

  stays_past : (s : List ℕ) → observed (follow_step p.alphabet q.table) (length q.table) s ≡ length q.table
  stays_past [] = refl
  stays_past (e ∷ s) = ap (λ state. observed (follow_step p.alphabet q.table) state s) (step_past e) ∙ stays_past s

  -- a run of both leads to the node of the follower
  ends : (n m : ℕ) (s : List ℕ) → is_run p.table n s ≡ true → is_run q.table m s ≡ true → observed (follow_step p.alphabet q.table) m s ≡ end_of q.table m s
  ends n m [] here there = refl
  ends n m (e ∷ s) here there =
      let a = and_parts (is_possible (node_at p.table n).next e) (is_run p.table (node_after p.table n e) s) here in
      let b = and_parts (is_possible (node_at q.table m).next e) (is_run q.table (node_after q.table m e) s) there in
      ap (λ state. observed (follow_step p.alphabet q.table) state s) (step_on n m e a.0 b.0) ∙ ends (node_after p.table n e) (node_after q.table m e) s a.1 b.1

  -- where the follower stands at a node of its own, the run is one of its table
  inside : (n m : ℕ) (s : List ℕ) → is_run p.table n s ≡ true → observed (follow_step p.alphabet q.table) m s < length q.table → is_run q.table m s ≡ true
  inside n m [] here less = refl
  inside n m (e ∷ s) here less =
      let a = and_parts (is_possible (node_at p.table n).next e) (is_run p.table (node_after p.table n e) s) here in
      elim (cases_Bool (is_possible (node_at q.table m).next e)) [
        | inl there ↦
            and_from _ _ there (inside (node_after p.table n e) (node_after q.table m e) s a.1
            (subst (λ state. observed (follow_step p.alphabet q.table) state s < length q.table) (step_on n m e a.0 there) less))
        | inr not_there ↦
            let out : observed (follow_step p.alphabet q.table) m (e ∷ s) ≡ length q.table =
            ap (λ state. observed (follow_step p.alphabet q.table) state s) (step_out n m e a.0 not_there) ∙ stays_past s in
            absurd (omega (arith, out, less))
      ]

  end_inside : (m : ℕ) (s : List ℕ) → m < length q.table → is_run q.table m s ≡ true → end_of q.table m s < length q.table
  end_inside m [] h run = h
  end_inside m (e ∷ s) h run =
      let b = and_parts (is_possible (node_at q.table m).next e) (is_run q.table (node_after q.table m e) s) run in
      end_inside (node_after q.table m e) s (after_within q other m e b.0) b.1

  -- ---- what a pair says

  -- from a pair that is inside an event leads to one that is not
  pub leaves_outside : (run : List ℕ) (pair to : ℕ × ℕ) (e : ℕ) → LeadsTo p.table (follow_step p.alphabet q.table) 0 run pair → StepsTo p.table (follow_step p.alphabet q.table) pair e to → pair.1 < length q.table → length q.table ≤ to.1 → RunsOutside p.table q.table (run ++ e ∷ [])
  leaves_outside run pair to e l steps there out =
      let front : IsRun q.table run = inside 0 0 run l.follows (subst (λ n. n < length q.table) (sym l.state) there) in
      let at : end_of q.table 0 run ≡ pair.1 = sym (ends 0 0 run l.follows front) ∙ l.state in
      record {
        front = run;
        last = e;
        is = refl;
        inside = front;
        runs = run_push p.table 0 run e l.follows (subst (λ n. is_possible (node_at p.table n).next e ≡ true) (sym l.node) steps.possible);
        outside = λ h.
            let possible : is_possible (node_at q.table pair.1).next e ≡ true = subst (λ n. is_possible (node_at q.table n).next e ≡ true) at (run_last q.table 0 run e h) in
            let state : to.1 ≡ node_after q.table pair.1 e = steps.state ∙ step_on pair.0 pair.1 e steps.possible possible in
            let within : node_after q.table pair.1 e < length q.table = after_within q other pair.1 e possible in
            omega arith;
      }

  module _ (found : Found) (explored : IsExploration p.table (follow_step p.alphabet q.table) 0 found.pairs) where
    pub all_inside : AreInside q.table found.pairs (length found.pairs) → (s : List ℕ) → IsRun p.table s → IsRun q.table s
    all_inside all s run = let l = explored.listed s run in inside 0 0 s run (subst (λ n. n < length q.table) (sym l.2.state) (all l.0 l.1))

    -- where a run of both leads
    pair_of_run : (s : List ℕ) (pair : ℕ × ℕ) → LeadsTo p.table (follow_step p.alphabet q.table) 0 s pair → IsRun q.table s → end_of q.table 0 s ≡ pair.1
    pair_of_run s pair l there = sym (ends 0 0 s l.follows there) ∙ l.state

    pub conforms : ((s : List ℕ) → IsRun p.table s → IsRun q.table s) → AllAccept p.table q.table found.pairs (length found.pairs) → TableConforms p.table q.table
    conforms runs all = record {
      runs = runs;
      acceptances = λ s k run h.
          let l = explored.listed s run in
          let pair = pair_at found.pairs l.0 in
          let there : end_of q.table 0 s ≡ pair.1 = pair_of_run s pair l.2 (runs s run) in
          let here : end_of p.table 0 s ≡ pair.0 = l.2.node in
          let less : pair.1 < length q.table = subst (λ n. n < length q.table) there (end_inside 0 s (first_within q other) (runs s run)) in
          let accepts = all l.0 l.1 less k (subst (λ n. k < length (node_at p.table n).accept) here h) in
          subst (λ n. HasWithin (acceptances_after q.table s) (get_or (node_at p.table n).accept k [])) (sym here)
          (subst (λ n. HasWithin (node_at q.table n).accept (get_or (node_at p.table pair.0).accept k [])) (sym there) accepts);
    }

    pub refuses_after : ((s : List ℕ) → IsRun p.table s → IsRun q.table s) → (run : List ℕ) (pair : ℕ × ℕ) → LeadsTo p.table (follow_step p.alphabet q.table) 0 run pair → RefusesAt p.table q.table pair → RefusesAfter p.table q.table run
    refuses_after runs run pair l refuses =
        let there : end_of q.table 0 run ≡ pair.1 = pair_of_run run pair l (runs run l.follows) in
        record {
          inside = runs;
          runs = l.follows;
          place = refuses.refuses.place;
          within = subst (λ n. refuses.refuses.place < length (node_at p.table n).accept) (sym l.node) refuses.refuses.within;
          refuses = λ h. refuses.refuses.refuses
              (subst (λ n. HasWithin (node_at q.table pair.1).accept (get_or (node_at p.table n).accept refuses.refuses.place [])) l.node
              (subst (λ n. HasWithin (node_at q.table n).accept (get_or (acceptances_after p.table run) refuses.refuses.place [])) there h));
        }
