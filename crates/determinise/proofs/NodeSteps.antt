-- The steps of a node, group by group.
use Rattle.determinise.proofs.Prelude.{◌≡◌, ℕ, zero, suc, ◌+◌, ◌<◌, ◌≤◌, inl, inr, Bool, true, false, ◌||◌, nat_eq, IsTrue, List, [], ◌∷◌, ◌++◌, length, get_or, take, refl, sym, ap, subst, ◌∙◌, arith, eq-eqb, map, cases_lt, cases_Bool, eqb-true, false≢true, or_left, or_right, cond-true, cond-false, get_or_append_left, length-append, get_or-append_seam, RawTable, is_possible, target, targets_of_steps, MeetsInOrder, has_event, IsNextSet, set_at, AreMoreSets, IsSomeNextSet, LeadsToSet, IsSilentClosure, IsStrictlyIncreasing, MOST_SETS}
use Rattle.determinise.proofs.Groups.{IsGroup, event_at, group_targets, event_place, events_more, next_of_group, some_next}
use Rattle.determinise.proofs.MoreSets.{more_then_more, more_of_kind, meets_then}

abbrev events_of_steps : List (ℕ × ℕ) → List ℕ
events_of_steps next = map (λ step. step.0) next

-- ---- one step more at the end
is_possible-push : (next : List (ℕ × ℕ)) (e n f : ℕ) → is_possible (next ++ (e, n) ∷ []) f ≡ (is_possible next f || nat_eq e f)
is_possible-push [] e n f = or_none (nat_eq e f)
  where
    or_none : (b : Bool) → (b || false) ≡ b
    or_none true = refl
    or_none false = refl
is_possible-push (step ∷ steps) e n f = ap (λ (b : Bool). nat_eq step.0 f || b) (is_possible-push steps e n f) ∙ sym (or_assoc (nat_eq step.0 f) (is_possible steps f) (nat_eq e f))
  where
    or_assoc : (a b c : Bool) → ((a || b) || c) ≡ (a || (b || c))
    or_assoc true b c = refl
    or_assoc false b c = refl

target-old : (next : List (ℕ × ℕ)) (e n f : ℕ) → is_possible next f ≡ true → target (next ++ (e, n) ∷ []) f ≡ target next f
target-old [] e n f h = absurd (false≢true h)
target-old (step ∷ steps) e n f h = elim (cases_Bool (nat_eq step.0 f)) as (λ _. target (step ∷ steps ++ (e, n) ∷ []) f ≡ target (step ∷ steps) f) [
  | inl here ↦ cond-true (nat_eq step.0 f) step.1 (target (steps ++ (e, n) ∷ []) f) here ∙ sym (cond-true (nat_eq step.0 f) step.1 (target steps f) here)
  | inr other ↦
      let later : is_possible steps f ≡ true = ap (λ (b : Bool). b || is_possible steps f) (sym other) ∙ h in
      cond-false (nat_eq step.0 f) step.1 (target (steps ++ (e, n) ∷ []) f) other ∙ (target-old steps e n f later ∙ sym (cond-false (nat_eq step.0 f) step.1 (target steps f) other))
]

target-new : (next : List (ℕ × ℕ)) (e n f : ℕ) → is_possible next f ≡ false → nat_eq e f ≡ true → target (next ++ (e, n) ∷ []) f ≡ n
target-new [] e n f h same = cond-true (nat_eq e f) n 0 same
target-new (step ∷ steps) e n f h same = elim (cases_Bool (nat_eq step.0 f)) as (λ _. target (step ∷ steps ++ (e, n) ∷ []) f ≡ n) [
  | inl here ↦ absurd (false≢true (sym h ∙ or_left (nat_eq step.0 f) (is_possible steps f) here))
  | inr other ↦
      let later : is_possible steps f ≡ false = ap (λ (b : Bool). b || is_possible steps f) (sym other) ∙ h in
      cond-false (nat_eq step.0 f) step.1 (target (steps ++ (e, n) ∷ []) f) other ∙ target-new steps e n f later same
]

events-push : (next : List (ℕ × ℕ)) (e n : ℕ) → events_of_steps (next ++ (e, n) ∷ []) ≡ events_of_steps next ++ e ∷ []
events-push [] e n = refl
events-push (step ∷ steps) e n = ap (λ (xs : List ℕ). step.0 ∷ xs) (events-push steps e n)

targets-push : (next : List (ℕ × ℕ)) (e n : ℕ) → targets_of_steps (next ++ (e, n) ∷ []) ≡ targets_of_steps next ++ n ∷ []
targets-push [] e n = refl
targets-push (step ∷ steps) e n = ap (λ (xs : List ℕ). step.1 ∷ xs) (targets-push steps e n)

-- an event of the steps is possible
possible_at : (next : List (ℕ × ℕ)) (k : ℕ) → k < length (events_of_steps next) → is_possible next (get_or (events_of_steps next) k 0) ≡ true
possible_at [] k below = absurd (omega arith)
possible_at (step ∷ steps) zero below = or_left (nat_eq step.0 step.0) (is_possible steps step.0) (eq-eqb step.0 step.0 refl)
possible_at (step ∷ steps) (suc k) below = or_right (nat_eq step.0 (get_or (events_of_steps steps) k 0)) (is_possible steps (get_or (events_of_steps steps) k 0)) (possible_at steps k (omega arith))

-- a greater number at the end of a rising list
rising-push : (xs : List ℕ) (e : ℕ) → IsStrictlyIncreasing xs → ((k : ℕ) → k < length xs → get_or xs k 0 < e) → IsStrictlyIncreasing (xs ++ e ∷ [])
rising-push xs e rising below k h =
    let long : length (xs ++ e ∷ []) ≡ length xs + 1 = length-append xs (e ∷ []) in
    let inside : k < length xs = omega (arith, h, long) in
    let first : get_or (xs ++ e ∷ []) k 0 ≡ get_or xs k 0 = get_or_append_left xs (e ∷ []) 0 k inside in
    elim (cases_lt (k + 1) (length xs)) as (λ _. get_or (xs ++ e ∷ []) k 0 < get_or (xs ++ e ∷ []) (k + 1) 0) [
      | inl early ↦ let second : get_or (xs ++ e ∷ []) (k + 1) 0 ≡ get_or xs (k + 1) 0 = get_or_append_left xs (e ∷ []) 0 (k + 1) early in rw (first, second) (rising k early)
      | inr late ↦
          let at : k + 1 ≡ length xs = omega arith in
          let second : get_or (xs ++ e ∷ []) (k + 1) 0 ≡ e = ap (λ n. get_or (xs ++ e ∷ []) n 0) at ∙ get_or-append_seam xs e [] 0 in
          rw (first, second) (below k inside)
    ]

-- what holds once the steps before a place have been gone through
pub record AreStepsSoFar (raw : RawTable) (moves : List (ℕ × ℕ)) (at : ℕ) (old sets : List (List ℕ)) (next : List (ℕ × ℕ)) : Type 0 where
  pub within : at ≤ length moves
  pub boundary : (j k : ℕ) → j < at → at ≤ k → k < length moves → event_at moves j < event_at moves k
  pub events : (e : ℕ) → is_possible next e ≡ has_event (take at moves) e
  pub leads : (e : ℕ) → IsTrue (is_possible next e) → LeadsToSet raw moves sets e (target next e)
  pub rising : IsStrictlyIncreasing (events_of_steps next)
  pub order : MeetsInOrder (length old) (targets_of_steps next) (length sets)
  pub more : AreMoreSets (IsSomeNextSet raw moves) old sets
  pub few : length sets ≤ MOST_SETS

module _ (raw : RawTable) (moves : List (ℕ × ℕ)) (from to n : ℕ) (old before after : List (List ℕ)) (next : List (ℕ × ℕ)) (g : IsGroup moves from to) (s : AreStepsSoFar raw moves from old before next) (more : AreMoreSets (IsSilentClosure raw (group_targets moves from to)) before after) where
  pub all_more : AreMoreSets (IsSomeNextSet raw moves) old after
  all_more = more_then_more (IsSomeNextSet raw moves) old before after s.more (more_of_kind (IsSilentClosure raw (group_targets moves from to)) (IsSomeNextSet raw moves) before after (λ X c. some_next raw moves from to X g c) more)

  kept_step : (e m : ℕ) → LeadsToSet raw moves before e m → LeadsToSet raw moves after e m
  kept_step e m l = record { within = omega (arith, l.within, more.longer); is = subst (IsNextSet raw moves e) (sym (more.kept m l.within)) l.is }

  pub steps_more : n < length after → IsSilentClosure raw (group_targets moves from to) (set_at after n) → MeetsInOrder (length before) (n ∷ []) (length after) → length after ≤ MOST_SETS → AreStepsSoFar raw moves to old after (next ++ (event_at moves from, n) ∷ [])
  steps_more below closure order few = record {
    within = g.within;
    boundary = λ j k early late inside. elim (cases_lt j from) as (λ _. event_at moves j < event_at moves k) [
      | inl first ↦ s.boundary j k first (omega (arith, g.some, late)) inside
      | inr here ↦ rw (g.same j here early) (g.after k late inside)
    ];
    events = λ e. is_possible-push next (event_at moves from) n e ∙ (ap (λ (b : Bool). b || nat_eq (event_at moves from) e) (s.events e) ∙ sym (events_more moves from to e g));
    leads = λ e h. elim (cases_Bool (is_possible next e)) as (λ _. LeadsToSet raw moves after e (target (next ++ (event_at moves from, n) ∷ []) e)) [
      | inl was ↦ subst (LeadsToSet raw moves after e) (sym (target-old next (event_at moves from) n e was)) (kept_step e (target next e) (s.leads e was))
      | inr new ↦
          let same : nat_eq (event_at moves from) e ≡ true = ap (λ (b : Bool). b || nat_eq (event_at moves from) e) (sym new) ∙ (sym (is_possible-push next (event_at moves from) n e) ∙ h) in
          let lead : LeadsToSet raw moves after (event_at moves from) n = record { within = below; is = next_of_group raw moves from to (set_at after n) g closure } in
          subst (LeadsToSet raw moves after e) (sym (target-new next (event_at moves from) n e new same)) (subst (λ (f : ℕ). LeadsToSet raw moves after f n) (eqb-true (event_at moves from) e same) lead)
    ];
    rising = subst IsStrictlyIncreasing (sym (events-push next (event_at moves from) n)) (rising-push (events_of_steps next) (event_at moves from) s.rising (λ k h. last_below k h));
    order = subst (λ (ts : List ℕ). MeetsInOrder (length old) ts (length after)) (sym (targets-push next (event_at moves from) n)) (meets_then (length old) (length before) (length after) (targets_of_steps next) (n ∷ []) s.order order);
    more = all_more;
    few = few;
  }
    where
      last_below : (k : ℕ) → k < length (events_of_steps next) → get_or (events_of_steps next) k 0 < event_at moves from
      last_below k h =
          let f : ℕ = get_or (events_of_steps next) k 0 in
          let listed : has_event (take from moves) f ≡ true = sym (s.events f) ∙ possible_at next k h in
          let p = event_place moves from f listed in
          rw p.3 (s.boundary p.0 from p.1 (omega arith) (omega (arith, g.some, g.within)))
