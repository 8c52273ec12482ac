-- The normal table of a labelled transition system: one node for each class of traces with the same future, with exactly the
-- acceptances after those traces. (Determinisation, with minimal acceptances, merged by equal future.)
use Rattle.std.specs.Prelude.{◌≡◌, ◌↔◌, ◌<◌, ◌≤◌, ℕ, List, [], length, get_or, map, All}
use Rattle.csp_base.specs.Standard.{IsStrictlyIncreasing, IsStrictlySortedBy, slice_cmp, nat_cmp}
use Rattle.csp_base.specs.Members.{has}
use Rattle.csp_tables.specs.Label.{Label}
use Rattle.csp_tables.specs.Path.{Stable}
use Rattle.csp_tables.specs.Trace.{After, IsTrace, IsAcceptance, HaveSameFuture}
use Rattle.csp_tables.specs.Table.{Node, node_at, IsRun, IsReached, end_of, acceptances_after}
use Rattle.csp_tables.specs.BreadthFirst.{IsBreadthFirst}
use Rattle.csp_tables.specs.Behaviour.{OffersAcceptance}

-- the list has a set with the members of M
pub record IsListed (sets : List (List ℕ)) (M : List ℕ) : Type 0 where
  pub place : ℕ
  pub within : place < length sets
  pub members : (e : ℕ) → has (get_or sets place []) e ≡ has M e

-- After a trace the node to which it leads has exactly the acceptances.
pub record HasAcceptances {S : Type 0} (Step : S → Label → S → Type 0) (start : S) (table : List Node) : Type 0 where
  pub sound : (s : List ℕ) (k : ℕ) → IsTrace Step start s → k < length (acceptances_after table s) → IsAcceptance Step start s (get_or (acceptances_after table s) k [])
  pub complete : (s M : List ℕ) → IsAcceptance Step start s M → IsListed (acceptances_after table s) M
  -- Every stable state offers an acceptance whole. (For finite offers this follows from the two facts above, by a search.)
  pub covered : (s : List ℕ) (t : S) → After Step start s t → Stable Step t → OffersAcceptance Step t (acceptances_after table s)

-- the events of a node rise, each event of an acceptance does, and so do the acceptances, in the order of lists
pub record IsRisingNode (node : Node) : Type 0 where
  pub events : IsStrictlyIncreasing (map (λ step. step.0) node.next)
  pub members : All IsStrictlyIncreasing node.accept
  pub acceptances : IsStrictlySortedBy (slice_cmp nat_cmp) node.accept

-- The table is the system's normal one, numbered breadth first and written in rising order, and no node has more than `most`
-- acceptances. (So it is the only one: each part of it is told by the system.)
pub record IsNormalTable {S : Type 0} (Step : S → Label → S → Type 0) (start : S) (most : ℕ) (table : List Node) : Type 0 where
  pub traces : (s : List ℕ) → IsTrace Step start s ↔ IsRun table s
  pub classes : (s t : List ℕ) → IsTrace Step start s → IsTrace Step start t → (end_of table 0 s ≡ end_of table 0 t) ↔ HaveSameFuture Step start s t
  pub acceptances : HasAcceptances Step start table
  pub rising : All IsRisingNode table
  pub breadth_first : IsBreadthFirst table
  pub reached : (n : ℕ) → n < length table → IsReached table n
  pub few : (n : ℕ) → length (node_at table n).accept ≤ most
