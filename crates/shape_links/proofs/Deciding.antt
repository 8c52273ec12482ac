-- From the pairs of an exploration to what holds after runs.
use Rattle.shape_links.proofs.Prelude.{◌≡◌, ℕ, ◌<◌, List, Bool, true, false, Option, Some, None, Result, length, sym, subst, IfOk, IsSomeAnd, MatchOption, both_ways, IsWellFormed, RunsTo, Shape, end_of, part_at, end_within, part_form, IsExploration, LeadsTo, observed, pair_at, IsDecided, IsFirstFailing, table_of, Component, either_way}

module _ (c : Component) (w : IsWellFormed c.shape.now) (step : ℕ → ℕ → ℕ) (start : ℕ) (pairs : List (ℕ × ℕ)) (x : IsExploration (table_of c) step start pairs) where
  pub pair_within : (k : ℕ) → k < length pairs → (pair_at pairs k).0 < length (table_of c)
  pair_within k h =
      let r = x.reached k h in
      subst (λ n. n < length (table_of c)) r.1.node (end_within (part_at c.shape.now.parts c.number) r.0 (part_form c.shape.now.parts c.number c.within w.form) r.1.follows)

  module _ (meets : ℕ → ℕ → Bool) where
    -- what is required of a run
    abbrev Meets : List ℕ → Type 0
    Meets s = meets (end_of (table_of c) 0 s) (observed step start s) ≡ true

    at_pair : (s : List ℕ) (pair : ℕ × ℕ) (b : Bool) → LeadsTo (table_of c) step start s pair → meets pair.0 pair.1 ≡ b → meets (end_of (table_of c) 0 s) (observed step start s) ≡ b
    at_pair s pair b leads is = subst (λ n. meets n (observed step start s) ≡ b) (sym leads.node) (subst (λ o. meets pair.0 o ≡ b) (sym leads.state) is)

    pub decided_run : {E : Type 0} (run : Result (Option (List ℕ)) E) (place : Option ℕ) → IsFirstFailing meets pairs place → IfOk run (λ r. MatchOption place (r ≡ None) (λ k. IsSomeAnd r (λ s. LeadsTo (table_of c) step start s (pair_at pairs k)))) → IfOk run (IsDecided c.shape.now c.number Meets)
    decided_run run place first ran = either_way run place (λ k s. LeadsTo (table_of c) step start s (pair_at pairs k)) (IsDecided c.shape.now c.number Meets) ran
        (λ none s runs. let k = x.listed s runs.follows in at_pair s (pair_at pairs k.0) true k.2 (subst (IsFirstFailing meets pairs) none first k.0 k.1))
        (λ k s some leads. (
          record { part = c.within; follows = leads.follows },
          λ met. both_ways (meets (end_of (table_of c) 0 s) (observed step start s)) (at_pair s (pair_at pairs k) false leads (subst (IsFirstFailing meets pairs) some first).1) met,
        ))

-- what holds of a decision holds of another one of the same runs
pub decided_alike : (shape : Shape) (i : ℕ) (P Q : List ℕ → Type 0) (run : Option (List ℕ)) → ((s : List ℕ) → RunsTo shape i s → P s → Q s) → ((s : List ℕ) → RunsTo shape i s → Q s → P s) → IsDecided shape i P run → IsDecided shape i Q run
decided_alike shape i P Q None to from d = λ s runs. to s runs (d s runs)
decided_alike shape i P Q (Some s) to from d = (d.0, λ q. d.1 (from s d.0 q))
