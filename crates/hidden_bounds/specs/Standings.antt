-- What is known of each component while components are taken. (For private contracts.)
use Rattle.std.specs.Prelude.{◌≡◌, ◌≢◌, ◌<◌, ◌⊎◌, ℕ, suc, ◌+◌, Bool, true, false, IsTrue, Some, List, [], ◌∷◌, ◌++◌, length, slice_get, slice_index_or}
use Rattle.std.specs.List.Sorted.{IsStrictlyIncreasing}
use Rattle.csp_base.specs.Events.{has, meets_of}
use Rattle.csp_tables.specs.Prelude.{Label, Component}
use Rattle.hidden_steps.specs.Order.{AreTaken, GoesRound, IsAmong, IsHeight}
use Rattle.hidden_bounds.specs.Exact.{AreOpen}
use Rattle.hidden_bounds.specs.Taking.{AreWithin, alphabet_at, taken_in}
use Rattle.hidden_bounds.specs.declared.ordering.Placed.{Placed}
use Rattle.hidden_bounds.specs.declared.standings.Standing.{Standing}
use Rattle.hidden_bounds.specs.declared.standings.Standing.TheVariants as standing

abbrev pub standing_at : List Standing → ℕ → Standing
standing_at standings i = slice_index_or standings i standing.Unknown

-- what is known of a component after one is taken with which it has a hidden event in common, or has none
abbrev pub reopened_to : Standing → Bool → Standing
reopened_to standing.Unknown shares = standing.Unknown
reopened_to standing.Round true = standing.Unknown
reopened_to standing.Round false = standing.Round
reopened_to standing.Taken shares = standing.Taken

-- how many components are not taken
abbrev pub one_waiting : Standing → ℕ
one_waiting standing.Unknown = 1
one_waiting standing.Round = 1
one_waiting standing.Taken = 0

abbrev pub waiting : List Standing → ℕ
waiting [] = 0
waiting (s ∷ ss) = one_waiting s + waiting ss

-- those that are not taken, numbered from n on
abbrev pub left_one : ℕ → Standing → List ℕ
left_one n standing.Unknown = n ∷ []
left_one n standing.Round = n ∷ []
left_one n standing.Taken = []

abbrev pub left_from : ℕ → List Standing → List ℕ
left_from n [] = []
left_from n (s ∷ ss) = left_one n s ++ left_from (suc n) ss

-- something is known of the component with the number i
abbrev pub IsKnown : List Standing → ℕ → Type 0
IsKnown standings i = standing_at standings i ≢ standing.Unknown

-- what is known of components stays known, and as many wait
pub record StayKnown (old new : List Standing) : Type 0 where
  pub known : (i : ℕ) → IsKnown old i → IsKnown new i
  pub waits : waiting new ≡ waiting old

-- one where a component was taken
abbrev pub one_more : Bool → ℕ
one_more true = 1
one_more false = 0

-- nothing is unknown of components
abbrev pub AreKnown : List Standing → Type 0
AreKnown standings = (i : ℕ) → i < length standings → IsKnown standings i

-- components that have one of the events may be free again; these are their alphabets
abbrev pub AreReopened : {T : Type 0} → List (Component T) → List ℕ → List Standing → List Standing → Type 0
AreReopened cs events old new = (i : ℕ) → i < length old → standing_at new i ≡ reopened_to (standing_at old i) (meets_of (alphabet_at cs i) events)

module _ {T : Type 0} (Step : T → Label → T → Type 0) (hidden : List ℕ) (cs : List (Component T)) where
  -- components were taken in this order, these hidden events are left, and what is known is true
  pub record IsSoFar (order : List Placed) (left : List ℕ) (standings : List Standing) : Type 0 where
    pub taken : AreTaken Step hidden cs (taken_in cs order)
    pub within : AreWithin (length cs) order
    pub open_ : AreOpen hidden (taken_in cs order) left
    pub one_each : length standings ≡ length cs
    pub marked : (i : ℕ) → IsAmong i (taken_in cs order) → standing_at standings i ≡ standing.Taken
    pub among : (i : ℕ) → standing_at standings i ≡ standing.Taken → IsAmong i (taken_in cs order)
    pub round : (i : ℕ) (c : Component T) → slice_get cs i ≡ Some c → standing_at standings i ≡ standing.Round → GoesRound Step hidden (taken_in cs order) c

  -- the component with the number i is free over those that were taken in this order, which was not known
  pub record IsFreeHere (order : List Placed) (standings : List Standing) (i n : ℕ) : Type 0 where
    pub waits : standing_at standings i ≡ standing.Unknown
    pub height : (c : Component T) → slice_get cs i ≡ Some c → IsHeight Step hidden (taken_in cs order) c n

  -- it is the least one
  pub record IsLeastFree (order : List Placed) (standings : List Standing) (p : Placed) : Type 0 where
    pub within : p.part < length cs
    pub free : IsFreeHere order standings p.part p.height
    pub least : (j : ℕ) → j < p.part → IsKnown standings j

  -- Components are taken in this order as long as one is free, and those are left.
  pub record IsTakenFar (order : List Placed) (parts : List ℕ) : Type 0 where
    pub taken : AreTaken Step hidden cs (taken_in cs order)
    pub within : AreWithin (length cs) order
    pub none_free : (i : ℕ) (c : Component T) → slice_get cs i ≡ Some c → IsAmong i (taken_in cs order) ⊎ GoesRound Step hidden (taken_in cs order) c
    pub each : (i : ℕ) → i < length cs → IsAmong i (taken_in cs order) ⊎ IsTrue (has parts i)
    pub left : (i : ℕ) → IsTrue (has parts i) → (i < length cs) × (IsAmong i (taken_in cs order) → ⊥)
    pub rising : IsStrictlyIncreasing parts
