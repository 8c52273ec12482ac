-- The own graph of a numbered table over some events: the terms, with the steps that are silent or by one of the events as arcs.
use Rattle.std.specs.Prelude.{◌≡◌, ◌<◌, ◌≤◌, ◌+◌, ◌⊎◌, ℕ, nat_eq, Bool, ◌&&◌, ◌||◌, IsTrue, List, length, slice_index}
use Rattle.std.specs.List.{list_any}
use Rattle.csp_base.specs.Members.{has}
use Rattle.csp_tables.specs.Prelude.{silent, visible, has_silent, RawStep, RawTable}
use Rattle.digraph.specs.Prelude.{IsCircle, Digraph, has_arc, Walk}

-- a step in the own graph
abbrev pub OwnArc : RawTable → List ℕ → ℕ → ℕ → Type 0
OwnArc raw events m n = RawStep raw m silent n ⊎ ((e : ℕ) × IsTrue (has events e) × RawStep raw m (visible e) n)

-- n is the greatest number of steps of a walk in the own graph
pub record IsOwnHeight (raw : RawTable) (events : List ℕ) (n : ℕ) : Type 0 where
  pub attained : (s : ℕ) × (t : ℕ) × (s < raw.count) × Walk (OwnArc raw events) n s t
  pub most : (s t m : ℕ) → s < raw.count → Walk (OwnArc raw events) m s t → m ≤ n

-- the own graph has a circle
abbrev pub GoesRoundItself : RawTable → List ℕ → Type 0
GoesRoundItself raw events = (terms : List ℕ) × IsCircle (OwnArc raw events) terms

-- whether a step from s by one of the events to t is listed
abbrev pub has_step_by : RawTable → List ℕ → ℕ → ℕ → Bool
has_step_by raw events s t = list_any (λ step. nat_eq s step.0 && has events step.1 && nat_eq t step.2) raw.steps

-- the own graph as a digraph: a vertex for each term, and an arc for each pair that has a step
pub record AreOwnRows (raw : RawTable) (events : List ℕ) (g : Digraph) : Type 0 where
  pub size : length g ≡ raw.count
  pub same : (s t : ℕ) → has_arc g s t ≡ (has_silent raw s t || has_step_by raw events s t)

-- each term of the trail has a step in the own graph to the next
abbrev pub IsOwnTrail : RawTable → List ℕ → List ℕ → Type 0
IsOwnTrail raw events trail = (k : ℕ) → k + 1 < length trail → OwnArc raw events (slice_index trail k) (slice_index trail (k + 1))

-- this is the last of the trail
abbrev pub IsLast : List ℕ → ℕ → Type 0
IsLast trail last = (k : ℕ) → k + 1 ≡ length trail → slice_index trail k ≡ last
