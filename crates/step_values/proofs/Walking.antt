-- A renaming as it is walked: what is left of it at each binding.
use Rattle.step_values.proofs.Prelude.{◌≡◌, ℕ, Ok, Err, List, [], length, map, ap, sym, ◌∙◌, Result, Outcome, and_then, Env, turn, uses_within, walked, EventPart, ValueKind, Content, Atom, over_begun, over_course, Course, GivesBinding, begun, course_under, faulty, skipped, Gathering, binding_renamed, renaming_in, GivesTally, renamed_walk, Gives, EvalFault, IsErrAnd, Gen, Walk, Tally, at_err, weaker, ◌+◌, ◌++◌, ◌∷◌, refl, cond, append-nil, append_assoc, joined, all_outcomes, each_joined, Renamed, pair_renamed, pairs_renamed, loops_give_all, MOST_BINDINGS, SetLimit, nat_lt}
use Rattle.csp_base.specs.Stops.{Tells}

pub walk_passed : (r : Result Tally EvalFault) (f : EvalFault) (part whole : Outcome Gathering)
    → IsErrAnd r (λ y. y ≡ f) → GivesTally (Err f) part → ((k : ValueKind) → part ≡ Err k → whole ≡ Err k) → GivesTally r whole
walk_passed r f part whole is h passes = at_err (λ q. GivesTally q whole) r f is (weaker (λ k. part ≡ Err k) (λ k. whole ≡ Err k) f h passes)

pub binding_passed : (r : Result Tally EvalFault) (f : EvalFault) (Fails : ValueKind → Type 0) (whole : Outcome Gathering)
    → IsErrAnd r (λ y. y ≡ f) → Tells Fails f → ((k : ValueKind) → Fails k → whole ≡ Err k) → GivesTally r whole
binding_passed r f Fails whole is h passes = at_err (λ q. GivesTally q whole) r f is (weaker Fails (λ k. whole ≡ Err k) f h passes)

pub value_of_tally : {A : Type 0} (r : Result A EvalFault) (f : EvalFault) (part : Outcome Gathering) (whole : Outcome A) → IsErrAnd r (λ y. y ≡ f) → GivesTally (Err f) part
    → ((k : ValueKind) → part ≡ Err k → whole ≡ Err k) → Gives r whole
value_of_tally r f part whole is h passes = at_err (λ q. Gives q whole) r f is (weaker (λ k. part ≡ Err k) (λ k. whole ≡ Err k) f h passes)

-- what is renamed after this
abbrev renamed_after : List Renamed → List (Outcome (List Renamed)) → Outcome (List Renamed)
renamed_after before os = and_then (all_outcomes (λ o. o) os) (λ lists. Ok (before ++ joined lists))

after_one : (before ys : List Renamed) (os : List (Outcome (List Renamed))) → renamed_after before (Ok ys ∷ os) ≡ renamed_after (before ++ ys) os
after_one before ys os = with_lists (all_outcomes (λ o. o) os)
  where
    with_lists : (o : Outcome (List (List Renamed)))
        → and_then (and_then o (λ lists. Ok (ys ∷ lists))) (λ lists. Ok (before ++ joined lists)) ≡ and_then o (λ lists. Ok ((before ++ ys) ++ joined lists))
    with_lists (Ok lists) = ap (λ zs. Ok zs) (sym (append_assoc before ys (joined lists)))
    with_lists (Err fault) = refl

-- a walk that begins has the whole renaming before it
pub walk_begun : (p : Content) (pairs : List (EventPart × EventPart)) (gens : List Gen) (walk : Walk) (state : Gathering) → walk ≡ begun []
    → renamed_walk p pairs gens [] state ≡ over_course (course_under p gens walk) (binding_renamed p pairs) state
unfolding renamed_walk
walk_begun p pairs gens walk state is = over_begun (binding_renamed p pairs) p (length p.defs) gens [] [] walk state is

-- what all pairs rename under a binding, after what was renamed before
pairs_after : (p : Content) (env : Env) (k : ℕ) (pairs : List (EventPart × EventPart)) (before : List Renamed) (rest : List (Outcome (List Renamed)))
    → renamed_after before (map (pair_renamed p env) pairs ++ rest) ≡
    and_then (and_then (each_joined (λ k pair. pair_renamed p env pair) k pairs) (λ more. Ok (before ++ more))) (λ done. renamed_after done rest)
pairs_after p env k [] before rest = ap (λ b. renamed_after b rest) (sym (append-nil before))
pairs_after p env k (pair ∷ pairs) before rest =
    first (λ ys. pairs_after p env (k + 1) pairs (before ++ ys) rest) (pair_renamed p env pair) ∙ sym (after_first (pair_renamed p env pair))
  where
    first : ((ys : List Renamed) → renamed_after (before ++ ys) (map (pair_renamed p env) pairs ++ rest) ≡
        and_then (and_then (each_joined (λ k pair. pair_renamed p env pair) (k + 1) pairs) (λ more. Ok ((before ++ ys) ++ more))) (λ done. renamed_after done rest))
        → (o : Outcome (List Renamed)) → renamed_after before (o ∷ (map (pair_renamed p env) pairs ++ rest)) ≡
        and_then o (λ ys. and_then (and_then (each_joined (λ k pair. pair_renamed p env pair) (k + 1) pairs) (λ more. Ok ((before ++ ys) ++ more))) (λ done. renamed_after done rest))
    first others (Ok ys) = after_one before ys (map (pair_renamed p env) pairs ++ rest) ∙ others ys
    first others (Err fault) = refl

    each_after : (o : Outcome (List Renamed)) (ys : List Renamed) → and_then (and_then o (λ more. Ok (ys ++ more))) (λ more. Ok (before ++ more)) ≡ and_then o (λ more. Ok ((before ++ ys) ++ more))
    each_after (Ok more) ys = ap (λ zs. Ok zs) (sym (append_assoc before ys more))
    each_after (Err fault) ys = refl

    after_first : (o : Outcome (List Renamed))
        → and_then (and_then (and_then o (λ ys. and_then (each_joined (λ k pair. pair_renamed p env pair) (k + 1) pairs) (λ more. Ok (ys ++ more)))) (λ more. Ok (before ++ more))) (λ done. renamed_after done rest) ≡
        and_then o (λ ys. and_then (and_then (each_joined (λ k pair. pair_renamed p env pair) (k + 1) pairs) (λ more. Ok ((before ++ ys) ++ more))) (λ done. renamed_after done rest))
    after_first (Ok ys) = ap (λ o. and_then o (λ done. renamed_after done rest)) (each_after (each_joined (λ k pair. pair_renamed p env pair) (k + 1) pairs) ys)
    after_first (Err fault) = refl

abbrev gathered_so : ℕ → List Renamed → Gathering
gathered_so n renamed = record { bindings = n; renamed = renamed }

renaming_by_loops : (p : Content) (pairs : List (EventPart × EventPart)) (gens : List Gen)
    → renaming_in p pairs gens ≡
    and_then (walked (map (turn (uses_within p (length p.defs)) p.channels) gens) (binding_renamed p pairs) [] (record { bindings = 0; renamed = [] })) (λ state. Ok state.renamed)
renaming_by_loops p pairs gens =
    sym (loops_give_all MOST_BINDINGS gathered_so (binding_renamed p pairs) (λ env renamed. and_then (pairs_renamed p env pairs) (λ more. Ok (renamed ++ more)))
    (λ env. map (pair_renamed p env) pairs) renamed_after (λ state. Ok state.renamed)
    (λ env n renamed i. cond (nat_lt n MOST_BINDINGS) (one_counted n renamed (pairs_renamed p env pairs) i) (Err SetLimit)) (λ n renamed. ap (λ all. Ok all) (sym (append-nil renamed))) (λ renamed k rest. refl)
    (λ env renamed rest. pairs_after p env 0 pairs renamed rest)
    (map (turn (uses_within p (length p.defs)) p.channels) gens) [] [])
  where
    one_counted : (n : ℕ) (renamed : List Renamed) (o : Outcome (List Renamed))
        → and_then o (λ more. Ok (gathered_so (n + 1) (renamed ++ more))) ≡ and_then (and_then o (λ more. Ok (renamed ++ more))) (λ all. Ok (gathered_so (n + 1) all))
    one_counted n renamed (Ok more) = refl
    one_counted n renamed (Err fault) = refl

-- the whole renaming, from a walk that begins with nothing
pub whole_walk : (p : Content) (pairs : List (EventPart × EventPart)) (gens : List Gen) (start : Gathering) (o : Outcome Gathering) → start ≡ record { bindings = 0; renamed = [] } → renamed_walk p pairs gens [] start ≡ o
    → renaming_in p pairs gens ≡ and_then o (λ state. Ok state.renamed)
unfolding renamed_walk
whole_walk p pairs gens start o e h =
    renaming_by_loops p pairs gens ∙ ap (λ s. and_then (walked (map (turn (uses_within p (length p.defs)) p.channels) gens) (binding_renamed p pairs) [] s) (λ state. Ok state.renamed)) (sym e) ∙ ap (λ r. and_then r (λ state. Ok state.renamed)) h
