-- Classes of nodes with equal future (equivalence of states in the theory of automata; Hopcroft 1971). The nodes of a table
-- are those of a deterministic labelled transition system. Each carries a mark, which says what is accepted there: marks
-- are equal where the acceptances are equal.
use Rattle.std.specs.Prelude.{◌≡◌, ◌↔◌, ◌⊎◌, ◌+◌, ◌<◌, ℕ, List, [], ◌∷◌, length, slice_index, IsTrue}
use Rattle.csp_tables.specs.Prelude.{BeginsAbove, Node, node_at, is_run, end_of}

-- The same lists of events can be followed from the two nodes, and each leads to nodes with equal marks.
pub record HaveEqualFuture (nodes : List Node) (marks : List ℕ) (i j : ℕ) : Type 0 where
  pub runs : (w : List ℕ) → is_run nodes i w ≡ is_run nodes j w
  pub ends : (w : List ℕ) → IsTrue (is_run nodes i w) → slice_index marks (end_of nodes i w) ≡ slice_index marks (end_of nodes j w)

-- Numbers in the order in which they are first seen, where those below seen were seen before: each is one of these or the
-- next one. In the end those below count have been seen.
abbrev pub SeenInOrder : ℕ → List ℕ → ℕ → Type 0
SeenInOrder seen [] count = seen ≡ count
SeenInOrder seen (x ∷ xs) count = ((x < seen) × SeenInOrder seen xs count) ⊎ ((x ≡ seen) × SeenInOrder (seen + 1) xs count)

-- A class for each node: two nodes have one class exactly where they have equal future. The classes are numbered from 0 in
-- the order in which they are first seen, and count is their number.
pub record AreFutureClasses (nodes : List Node) (marks : List ℕ) (classes : List ℕ) (count : ℕ) : Type 0 where
  pub one_each : length classes ≡ length nodes
  pub exact : (i j : ℕ) → i < length nodes → j < length nodes → (slice_index classes i ≡ slice_index classes j) ↔ HaveEqualFuture nodes marks i j
  pub order : SeenInOrder 0 classes count

-- the events rise strictly, and each leads to one of the nodes
abbrev pub StepsRise : ℕ → List (ℕ × ℕ) → Type 0
StepsRise nodes [] = Unit {0}
StepsRise nodes (step ∷ steps) = (step.1 < nodes) × BeginsAbove step.0 steps × StepsRise nodes steps

-- at each node the events rise strictly, and each leads to one of the nodes
abbrev pub NodesRise : List Node → Type 0
NodesRise nodes = (n : ℕ) → StepsRise (length nodes) (node_at nodes n).next
