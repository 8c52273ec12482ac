-- The determinised table of a labelled transition system of numbered terms (the subset construction: Hopcroft, Motwani and
-- Ullman, Introduction to Automata Theory, section 2.3; for acceptances Roscoe, The Theory and Practice of Concurrency, 1997,
-- appendix C): a node for each set of terms that a trace leads to.
use Rattle.std.specs.Prelude.{◌≡◌, ◌≢◌, ◌↔◌, ◌<◌, ℕ, List, [], length, get_or, IsTrue, All}
use Rattle.std.specs.List.Sorted.{IsStrictlyIncreasing}
use Rattle.csp_base.specs.Members.{has}
use Rattle.csp_tables.specs.Prelude.{Label, After, IsTrace, Node, IsRun, end_of}

-- the nodes, and for each node its set of terms
pub record Determinised : Type 0 where
  pub nodes : List Node
  pub sets : List (List ℕ)

-- the set of the node to which the events lead from the first one
abbrev pub set_after : Determinised → List ℕ → List ℕ
set_after made s = get_or made.sets (end_of made.nodes 0 s) []

-- Runs are traces, and a run leads to the set of exactly those terms that its trace leads to.
pub record FollowsTraces (Step : ℕ → Label → ℕ → Type 0) (start : ℕ) (made : Determinised) : Type 0 where
  pub traces : (s : List ℕ) → IsTrace Step start s ↔ IsRun made.nodes s
  pub terms : (s : List ℕ) (t : ℕ) → IsRun made.nodes s → IsTrue (has (set_after made s) t) ↔ After Step start s t

-- there is a set for each node, written as a rising list, and no set stands twice
pub record AreDifferentSets (made : Determinised) : Type 0 where
  pub one_each : length made.sets ≡ length made.nodes
  pub rising : All IsStrictlyIncreasing made.sets
  pub apart : (m n : ℕ) → m < n → n < length made.sets → get_or made.sets m [] ≢ get_or made.sets n []
