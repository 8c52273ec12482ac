-- A table whose nodes are merged by classes: one node for each class.
use Rattle.std.specs.Prelude.{◌≡◌, ◌≢◌, ◌<◌, ℕ, List, length, map, slice_index}
use Rattle.csp_tables.specs.Table.{Node, node_at}
use Rattle.equal_futures.specs.Future.{AreFutureClasses}
use Rattle.normal_form.specs.Marks.{AreMarksOf}

-- the node with classes in place of the nodes to which its events lead
abbrev pub renamed : List ℕ → Node → Node
renamed classes node = record { next = map (λ step. (step.0, slice_index classes step.1)) node.next; accept = node.accept }

-- no node before n has its class
abbrev pub IsFirst : List ℕ → ℕ → Type 0
IsFirst classes n = (m : ℕ) → m < n → slice_index classes m ≢ slice_index classes n

-- The node of a class is the first node that has the class.
pub record AreMerged (nodes : List Node) (classes : List ℕ) (count : ℕ) (merged : List Node) : Type 0 where
  pub one_each : length merged ≡ count
  pub first : (n : ℕ) → n < length nodes → IsFirst classes n → node_at merged (slice_index classes n) ≡ renamed classes (node_at nodes n)

-- The table has one node for each class of nodes with equal future, where nodes with different acceptances are told apart.
pub record IsMergedTable (nodes merged : List Node) : Type 0 where
  pub marks : List ℕ
  pub classes : List ℕ
  pub count : ℕ
  pub told : AreMarksOf nodes marks
  pub futures : AreFutureClasses nodes marks classes count
  pub is : AreMerged nodes classes count merged
