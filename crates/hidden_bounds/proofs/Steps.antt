-- What a call does to what is known: a component is read, one is looked at after another, and the least free one is taken.
use Rattle.hidden_bounds.proofs.Prelude.{◌≡◌, ◌≢◌, ℕ, ◌+◌, ◌<◌, ◌≤◌, List, [], ◌∷◌, ◌++◌, length, get_or, sym, ap, subst, ◌∙◌, arith, inl, inr, set, cases_eq, cases_lt, get_or-set_same, get_or-set_other, get_or_default, length-set, slice_get-get_or, diff_of, inter_of, meets_of, slice_get_some, Label, Component, AreReopened, IsFreeHere, IsKnown, IsLeastFree, IsSoFar, StayKnown, reopened_to, standing_at, waiting, alphabet_at, alphabet_of, Placed, Standing}
use Rattle.hidden_bounds.specs.declared.standings.Standing.TheVariants as standing
use Rattle.hidden_bounds.proofs.Known.{fewer_wait, one_more}

-- the alphabet of a component that is read
pub alphabet_read : {T : Type 0} (cs : List (Component T)) (i : ℕ) (c : Component T) → i < length cs → (get_or cs i c).alphabet ≡ alphabet_at cs i
alphabet_read cs i c within = ap alphabet_of (sym (slice_get-get_or cs i c within))

-- ---- one is looked at after another

pub known_next : (ss new : List Standing) (i : ℕ) → ((j : ℕ) → j < i → IsKnown ss j) → StayKnown ss new → IsKnown new i → (j : ℕ) → j < i + 1 → IsKnown new j
known_next ss new i before stay here j below = elim (cases_lt j i) as (λ _. IsKnown new j) [
  | inl less ↦ stay.known j (before j less)
  | inr more ↦ let same : i ≡ j = omega arith in subst (IsKnown new) same here
]

module _ {T : Type 0} (Step : T → Label → T → Type 0) (hidden : List ℕ) (cs : List (Component T)) (order : List Placed) where
  pub least_here : (ss new : List Standing) (i height : ℕ) → i < length cs → ((j : ℕ) → j < i → IsKnown ss j) → StayKnown ss new → IsFreeHere Step hidden cs order new i height
      → IsLeastFree Step hidden cs order new (record { part = i; height = height })
  least_here ss new i height within before stay free = record { within = within; free = free; least = λ j below. stay.known j (before j below) }

  -- ---- the least free one is taken

  module _ (left : List ℕ) (ss : List Standing) (so_far : IsSoFar Step hidden cs order left ss) (p : Placed) (least : IsLeastFree Step hidden cs order ss p) (rest events : List ℕ) (after : List Standing)
      (events_are : events ≡ inter_of hidden (alphabet_at cs p.part)) (rest_is : rest ≡ diff_of left (alphabet_at cs p.part)) (as_many : length after ≡ length (set ss p.part standing.Taken))
      (reopened : AreReopened cs events (set ss p.part standing.Taken) after) where
    many : length after ≡ length ss
    many = as_many ∙ length-set ss p.part standing.Taken

    here : AreReopened cs (inter_of hidden (alphabet_at cs p.part)) (set ss p.part standing.Taken) after
    here = subst (λ (es : List ℕ). AreReopened cs es (set ss p.part standing.Taken) after) events_are reopened

    pub taken_now : (now : List Placed) → now ≡ order ++ p ∷ [] → IsSoFar Step hidden cs now rest after
    taken_now now is =
        let c = slice_get_some cs p.part least.within in
        subst (λ (o : List Placed). IsSoFar Step hidden cs o rest after) (sym is) (one_more Step hidden cs order left ss so_far p least rest after rest_is many here c.0 c.1)

    pub fewer_now : waiting after < waiting ss
    fewer_now = fewer_wait Step hidden cs order left ss so_far p least rest after rest_is many here

-- ---- components may be free again

module _ {T : Type 0} (cs : List (Component T)) (events : List ℕ) (old ss : List Standing) (i : ℕ) (s : Standing) (within : i < length ss) (as_many : length ss ≡ length old)
    (rest : (j : ℕ) → i ≤ j → standing_at ss j ≡ standing_at old j) (d : Standing) (is : s ≡ reopened_to (get_or ss i d) (meets_of (alphabet_at cs i) events)) where
  pub reopened_next : ((j : ℕ) → j < i → standing_at ss j ≡ reopened_to (standing_at old j) (meets_of (alphabet_at cs j) events))
      → (j : ℕ) → j < i + 1 → standing_at (set ss i s) j ≡ reopened_to (standing_at old j) (meets_of (alphabet_at cs j) events)
  reopened_next done j below = elim (cases_eq j i) as (λ _. standing_at (set ss i s) j ≡ reopened_to (standing_at old j) (meets_of (alphabet_at cs j) events)) [
    | inl same ↦
        let here : standing_at (set ss i s) i ≡ reopened_to (standing_at old i) (meets_of (alphabet_at cs i) events) =
        get_or-set_same ss i s standing.Unknown within ∙ is ∙ ap (λ x. reopened_to x (meets_of (alphabet_at cs i) events)) (get_or_default ss i d standing.Unknown within ∙ rest i (omega arith)) in
        subst (λ k. standing_at (set ss i s) k ≡ reopened_to (standing_at old k) (meets_of (alphabet_at cs k) events)) (sym same) here
    | inr other ↦ get_or-set_other ss i j s standing.Unknown other ∙ done j (let apart : j ≢ i = other in omega arith)
  ]

  pub reopened_rest : (j : ℕ) → i + 1 ≤ j → standing_at (set ss i s) j ≡ standing_at old j
  reopened_rest j above = get_or-set_other ss i j s standing.Unknown (λ same. omega (arith, above, same)) ∙ rest j (omega arith)
