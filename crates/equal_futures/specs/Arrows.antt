-- Steps by events as a list of pairs of an event and a node, and what they make of a partition.
use Rattle.std.specs.Prelude.{◌≡◌, ◌↔◌, ◌<◌, ℕ, List, [], Bool, ◌&&◌, ◌||◌, nat_eq, nat_lt, IsTrue, length, slice_index, slice_index_or}
use Rattle.std.specs.List.{list_any}
use Rattle.csp_tables.specs.Table.{Node, node_at, node_after, is_possible}
use Rattle.partitions.specs.Blocks.{State, HasBlocks, IsCalm, IsOnward, block_at}

-- whether the list has a step by the event from the node
abbrev pub has_arrow : List (ℕ × ℕ) → ℕ → ℕ → Bool
has_arrow steps e i = list_any (λ step. nat_eq step.0 e && nat_eq step.1 i) steps

-- Two nodes are in one block then exactly where they were before and have steps by the same events in the list.
pub record IsSplitByEvents (n : ℕ) (old new : State) (steps : List (ℕ × ℕ)) : Type 0 where
  pub fit : HasBlocks n new
  pub calm : IsCalm new
  pub exact : (i j : ℕ) → i < n → j < n → (block_at new i ≡ block_at new j) ↔ ((block_at old i ≡ block_at old j) × ((e : ℕ) → has_arrow steps e i ≡ has_arrow steps e j))
  pub onward : IsOnward n old new

-- the event of the step in a place
abbrev pub event_at : List (ℕ × ℕ) → ℕ → ℕ
event_at steps k = (slice_index_or steps k (0, 0)).0

-- the steps lead from nodes below n
abbrev pub AreFrom : ℕ → List (ℕ × ℕ) → Type 0
AreFrom n steps = (e i : ℕ) → IsTrue (has_arrow steps e i) → i < n

-- each node has one step, by its mark
abbrev pub AreMarkSteps : List ℕ → List (ℕ × ℕ) → Type 0
AreMarkSteps marks steps = (e i : ℕ) → has_arrow steps e i ≡ (nat_lt i (length marks) && nat_eq (slice_index marks i) e)

-- to the row of each target the steps were added, from the source
pub record AreAdded (old new : List (List (ℕ × ℕ))) (source : ℕ) (next : List (ℕ × ℕ)) : Type 0 where
  pub one_each : length new ≡ length old
  pub steps : (t e i : ℕ) → t < length old → has_arrow (slice_index_or new t []) e i ≡ (has_arrow (slice_index_or old t []) e i || (nat_eq source i && has_arrow next e t))

-- for each node below k the steps from it stand in the rows of their targets
pub record AreIncoming (nodes : List Node) (rows : List (List (ℕ × ℕ))) (k : ℕ) : Type 0 where
  pub one_each : length rows ≡ length nodes
  pub exact : (t e i : ℕ) → t < length nodes → IsTrue (has_arrow (slice_index_or rows t []) e i) ↔ ((i < k) × IsTrue (is_possible (node_at nodes i).next e) × (node_after nodes i e ≡ t))

-- the steps are those in the rows of the members
abbrev pub AreGathered : List (List (ℕ × ℕ)) → List ℕ → List (ℕ × ℕ) → Type 0
AreGathered rows members steps = (e i : ℕ) → has_arrow steps e i ≡ list_any (λ t. has_arrow (slice_index_or rows t []) e i) members
