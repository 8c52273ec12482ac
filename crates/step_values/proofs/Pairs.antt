-- What a pair of a renaming renames under an environment, from what its sides come to.
use Rattle.step_values.proofs.Prelude.{◌≡◌, ℕ, zero, suc, ◌+◌, ◌<◌, ◌≤◌, ◌^◌, Some, Ok, Err, List, [], ◌∷◌, ◌++◌, length, take, drop, slice_get, refl, ap, sym, subst, ◌∙◌, arith, event_table, IsInOrder, Outcome, and_then, Env, meanings, sets_of, EventPart, out-EventPart, Expr, Content, Value, fronts_of, same_count, front_worth, worths, each_joined, Renamed, pair_renamed, new_event, pair_walked, renamed_as, number_fits, program_fits, first_of, span, EventInfo, front_fits, event_with, values_after, has_sets, table_from_sets, count_with, all_outcomes, front_events}

-- the event at a place of a list, and those after it
there : (xs : List EventInfo) (i : ℕ) → i < length xs → (x : EventInfo) × (slice_get xs i ≡ Some x) × (drop i xs ≡ x ∷ drop (i + 1) xs)
there [] i l = absurd (omega arith)
there (x ∷ xs) zero l = (x, refl, refl)
there (x ∷ xs) (suc i) l =
    let rest = there xs i (omega arith) in
    let next : suc (i + 1) ≡ suc i + 1 = omega arith in
    (rest.0, rest.1, rest.2 ∙ ap (λ n. rest.0 ∷ drop n (x ∷ xs)) next)

length_taken : (n : ℕ) (xs : List EventInfo) → length (take n xs) ≤ n
length_taken zero xs = omega arith
length_taken (suc n) [] = omega arith
length_taken (suc n) (x ∷ xs) = let rest = length_taken n xs in omega arith

-- each event with its new one, in lists of one
pub each_alone : (new : ℕ → Outcome ℕ) (k : ℕ) (es : List ℕ)
    → each_joined {B = Renamed} (λ k e. and_then (new e) (λ d. Ok ((e, d) ∷ []))) k es ≡ all_outcomes (λ e. and_then (new e) (λ d. Ok (e, d))) es
each_alone new k [] = refl
each_alone new k (e ∷ es) = first (each_alone new (k + 1) es) (new e)
  where
    first : each_joined {B = Renamed} (λ k e. and_then (new e) (λ d. Ok ((e, d) ∷ []))) (k + 1) es ≡ all_outcomes (λ e. and_then (new e) (λ d. Ok (e, d))) es → (o : Outcome ℕ)
        → and_then (and_then o (λ d. Ok ((e, d) ∷ []))) (λ ys. and_then (each_joined {B = Renamed} (λ k e. and_then (new e) (λ d. Ok ((e, d) ∷ []))) (k + 1) es) (λ more. Ok (ys ++ more))) ≡
        and_then (and_then o (λ d. Ok (e, d))) (λ y. and_then (all_outcomes (λ e. and_then (new e) (λ d. Ok (e, d))) es) (λ ys. Ok (y ∷ ys)))
    first rest (Ok d) = λ i. and_then (rest i) (λ more. Ok ((e, d) ∷ more))
    first rest (Err fault) = refl

-- events by their places, and as they stand one after another
one_by_one : (new : List Value → Outcome ℕ) (after : List Value → List Value) (events : List EventInfo) (given j first count : ℕ) → first + count ≤ length events
    → each_joined {B = Renamed} (λ k e. and_then (new (after (values_after given (slice_get events e)))) (λ d. Ok ((e, d) ∷ []))) j (span first count) ≡
    each_joined {B = Renamed} (λ e info. and_then (new (after (values_after given (Some info)))) (λ d. Ok ((e, d) ∷ []))) first (take count (drop first events))
one_by_one new after events given j first zero within = refl
one_by_one new after events given j first (suc n) within =
    let t = there events first (omega arith) in
    let rest = one_by_one new after events given (j + 1) (first + 1) n (omega arith) in
    (λ i. and_then (and_then (new (after (values_after given (t.1 i)))) (λ d. Ok ((first, d) ∷ []))) (λ ys. and_then (rest i) (λ more. Ok (ys ++ more)))) ∙
    ap (λ xs. each_joined {B = Renamed} (λ e info. and_then (new (after (values_after given (Some info)))) (λ d. Ok ((e, d) ∷ []))) first (take (suc n) xs)) (sym t.2)

module _ (p : Content) (ordered : IsInOrder p) where
  -- the events of a front have numbers of 32 bits
  few : (env : Env) (c : ℕ) (es : List Expr) (first : ℕ) → front_worth p (length p.defs) env c es ≡ Ok first → first + count_with (sets_of (slice_get p.channels c)) (length es) < 2 ^ 32
  few env c es first good = front_fits p (length p.defs) env c es first (program_fits p ordered) good

  pub count_fits : (env : Env) (c : ℕ) (es : List Expr) (first : ℕ) → front_worth p (length p.defs) env c es ≡ Ok first → count_with (sets_of (slice_get p.channels c)) (length es) < 2 ^ 32
  count_fits env c es first good = let fits = few env c es first good in omega (arith, fits)

  pub events_fit : (env : Env) (c : ℕ) (es : List Expr) (first : ℕ) (events : List EventInfo) → front_worth p (length p.defs) env c es ≡ Ok first
      → events ≡ take (count_with (sets_of (slice_get p.channels c)) (length es)) (drop first p.events) → first + length events ≤ 2 ^ 32
  events_fit env c es first events good are =
      let fits = few env c es first good in
      let short = length_taken (count_with (sets_of (slice_get p.channels c)) (length es)) (drop first p.events) in
      let same = ap length are in
      omega (arith, fits, short, same)

  -- they stand in the program's table
  in_table : (env : Env) (c : ℕ) (es : List Expr) (first : ℕ) → front_worth p (length p.defs) env c es ≡ Ok first → first + count_with (sets_of (slice_get p.channels c)) (length es) ≤ length p.events
  unfolding front_worth
  in_table env c es first good =
      let fit = program_fits p ordered in
      let ms = meanings p (length p.defs) es in
      let s = has_sets (first_of (slice_get p.channels c)) (sets_of (slice_get p.channels c)) ms env first good in
      let table = table_from_sets p ordered.table c s.0 s.1 in
      subst (λ (l : List EventInfo). first + count_with (sets_of (slice_get p.channels c)) (length es) ≤ length l) (sym table)
      (subst (λ m. first + m ≤ length (event_table p.channels)) (same_count (sets_of (slice_get p.channels c)) p (length p.defs) es) (number_fits p.channels fit c ms env first good))

  module _ (env : Env) (pair : EventPart × EventPart) (renamed : List Renamed) where
    abbrev given : ℕ
    given = length (out-EventPart pair.0).fields

    abbrev count : ℕ
    count = count_with (sets_of (slice_get p.channels (out-EventPart pair.0).channel)) given

    -- what the events become, each by its number, and as they stand in the table
    abbrev by_number : List ℕ → List Value → Outcome (List Renamed)
    by_number es vs = each_joined (λ k e. and_then (event_with p.channels (out-EventPart pair.1).channel (vs ++ values_after given (slice_get p.events e))) (λ d. Ok ((e, d) ∷ []))) 0 es

    abbrev by_place : ℕ → List Value → Outcome (List Renamed)
    by_place first vs = each_joined (renamed_as (new_event p (out-EventPart pair.1).channel vs) given) first (take count (drop first p.events))

    abbrev after : Outcome (List Renamed) → Outcome (List Renamed)
    after o = and_then o (λ more. Ok (renamed ++ more))

    with_values : (first : ℕ) → first + count ≤ length p.events → (o : Outcome (List Value))
        → and_then o (λ vs. after (by_place first vs)) ≡ after (and_then o (λ vs. by_number (span first count) vs))
    with_values first within (Ok vs) = ap after (sym (one_by_one (event_with p.channels (out-EventPart pair.1).channel) (λ rest. vs ++ rest) p.events given 0 first count within))
    with_values first within (Err k) = refl

    with_front : (values : Outcome (List Value)) (o : Outcome ℕ) → front_worth p (length p.defs) env (out-EventPart pair.0).channel (out-EventPart pair.0).fields ≡ o
        → and_then o (λ first. and_then values (λ vs. after (by_place first vs))) ≡
        after (and_then (and_then o (λ e. Ok (span e count))) (λ es. and_then values (λ vs. by_number es vs)))
    with_front values (Ok first) good = with_values first (in_table env (out-EventPart pair.0).channel (out-EventPart pair.0).fields first good) values
    with_front values (Err k) good = refl

    pub pair_is : pair_walked p env pair renamed ≡ and_then (pair_renamed p env pair) (λ more. Ok (renamed ++ more))
    unfolding pair_walked worths
    pair_is =
        with_front (worths p (length p.defs) env (out-EventPart pair.1).fields) (front_worth p (length p.defs) env (out-EventPart pair.0).channel (out-EventPart pair.0).fields) refl ∙
        (ap (λ o. after (and_then o (λ es. and_then (worths p (length p.defs) env (out-EventPart pair.1).fields) (λ vs. by_number es vs))))
        (sym (fronts_of p (length p.defs) env (out-EventPart pair.0).channel (out-EventPart pair.0).fields (program_fits p ordered))) ∙
        (λ i. after (and_then (front_events p.channels (out-EventPart pair.0).channel (meanings p (length p.defs) (out-EventPart pair.0).fields) env)
        (λ es. and_then (worths p (length p.defs) env (out-EventPart pair.1).fields) (λ vs.
        each_alone (λ e. event_with p.channels (out-EventPart pair.1).channel (vs ++ values_after given (slice_get p.events e))) 0 es i)))))
