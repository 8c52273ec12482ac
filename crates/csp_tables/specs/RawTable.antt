-- The numbered table of one component: the terms that it reaches by itself, numbered from 0, and their steps.
use Rattle.std.specs.Prelude.{◌≡◌, ℕ, List, Some, length, slice_get}
use Rattle.csp_tables.specs.Label.{Label}
use Rattle.csp_tables.specs.Label.Label.{silent, visible}
use Rattle.csp_tables.specs.Path.{Reached}
use Rattle.csp_tables.specs.Network.{Component, ComponentStep}
use Rattle.csp_base.specs.Lists.{EachOnce}

-- silent steps from a term to a term, and steps from a term by an event to a term
pub record RawTable : Type 0 where
  pub silent : List (ℕ × ℕ)
  pub steps : List (ℕ × ℕ × ℕ)
  pub count : ℕ

-- the steps of a numbered table, as a labelled transition system of its numbers
abbrev pub RawStep : RawTable → ℕ → Label → ℕ → Type 0
RawStep raw m silent n = (k : ℕ) × (slice_get raw.silent k ≡ Some (m, n))
RawStep raw m (visible e) n = (k : ℕ) × (slice_get raw.steps k ≡ Some (m, e, n))

-- the component with another term in place of its own
abbrev pub standing_at : {T : Type 0} → Component T → T → Component T
standing_at c x = record { alphabet = c.alphabet; term = x }

-- a step of the table is a step of the component
pub record IsStepOf {T : Type 0} (Step : T → Label → T → Type 0) (c : Component T) (terms : List T) (m : ℕ) (l : Label) (n : ℕ) : Type 0 where
  pub source : T
  pub goal : T
  pub from : slice_get terms m ≡ Some source
  pub to : slice_get terms n ≡ Some goal
  pub step : ComponentStep Step (standing_at c source) l (standing_at c goal)

-- a step of the component is a step of the table
pub record IsInTable {T : Type 0} (terms : List T) (raw : RawTable) (m : ℕ) (l : Label) (d : Component T) : Type 0 where
  pub number : ℕ
  pub listed : slice_get terms number ≡ Some d.term
  pub step : RawStep raw m l number

-- The table has exactly the terms that the component reaches by itself, its own term first, and exactly their steps: each
-- term once, and each step once.
pub record IsTableOf {T : Type 0} (Step : T → Label → T → Type 0) (c : Component T) (terms : List T) (raw : RawTable) : Type 0 where
  pub first : slice_get terms 0 ≡ Some c.term
  pub count : length terms ≡ raw.count
  pub terms_once : EachOnce terms
  pub silent_once : EachOnce raw.silent
  pub steps_once : EachOnce raw.steps
  pub reached : (n : ℕ) (x : T) → slice_get terms n ≡ Some x → Reached (ComponentStep Step) c (standing_at c x)
  pub sound : (m n : ℕ) (l : Label) → RawStep raw m l n → IsStepOf Step c terms m l n
  pub complete : (m : ℕ) (x : T) (l : Label) (d : Component T) → slice_get terms m ≡ Some x → ComponentStep Step (standing_at c x) l d → IsInTable terms raw m l d
