-- What holds while sets of terms are found and numbered.
use Rattle.std.specs.Prelude.{◌≡◌, ◌≢◌, ◌<◌, ◌≤◌, ℕ, List, [], length, get_or, map, take, IsTrue}
use Rattle.std.specs.List.Sorted.{IsStrictlyIncreasing}
use Rattle.csp_tables.specs.Prelude.{RawTable, Node, is_possible, target, node_at, MeetsUpTo}
use Rattle.term_sets.specs.Moves.{has_event, IsNextSet, AreMovesOf}
use Rattle.term_sets.specs.TermSets.{AreMinimalOffers, IsSetAfter, IsTermSet}

-- the set in a place
abbrev pub set_at : List (List ℕ) → ℕ → List ℕ
set_at sets n = get_or sets n []

-- no set stands twice
abbrev pub StandOnce : List (List ℕ) → Type 0
StandOnce sets = (m n : ℕ) → m < n → n < length sets → set_at sets m ≢ set_at sets n

-- the set to which one of these events leads over these steps
pub record IsSomeNextSet (raw : RawTable) (moves : List (ℕ × ℕ)) (set : List ℕ) : Type 0 where
  pub event : ℕ
  pub listed : IsTrue (has_event moves event)
  pub is : IsNextSet raw moves event set
  pub form : IsTermSet raw set

-- the set to which one of the events of these terms leads
abbrev pub IsReachedFromSet : RawTable → List ℕ → List ℕ → Type 0
IsReachedFromSet raw terms set = (moves : List (ℕ × ℕ)) × AreMovesOf raw terms moves × IsSomeNextSet raw moves set

-- Sets of a kind were added behind those that were there.
pub record AreMoreSets (IsOfKind : List ℕ → Type 0) (old new : List (List ℕ)) : Type 0 where
  pub longer : length old ≤ length new
  pub kept : (n : ℕ) → n < length old → set_at new n ≡ set_at old n
  pub added : (n : ℕ) → length old ≤ n → n < length new → IsOfKind (set_at new n)
  pub apart : StandOnce old → StandOnce new

-- the number of the set to which the event leads over these steps
pub record LeadsToSet (raw : RawTable) (moves : List (ℕ × ℕ)) (sets : List (List ℕ)) (e n : ℕ) : Type 0 where
  pub within : n < length sets
  pub is : IsNextSet raw moves e (set_at sets n)

-- The steps of a node: its events are those of these steps, and rise, and each leads to the number of its set.
pub record AreNodeSteps (raw : RawTable) (moves : List (ℕ × ℕ)) (sets : List (List ℕ)) (next : List (ℕ × ℕ)) : Type 0 where
  pub events : (e : ℕ) → is_possible next e ≡ has_event moves e
  pub leads : (e : ℕ) → IsTrue (is_possible next e) → LeadsToSet raw moves sets e (target next e)
  pub rising : IsStrictlyIncreasing (map (λ step. step.0) next)

-- the steps of the node of a set of terms
abbrev pub AreStepsOf : RawTable → List (List ℕ) → List ℕ → List (ℕ × ℕ) → Type 0
AreStepsOf raw sets terms next = (moves : List (ℕ × ℕ)) × AreMovesOf raw terms moves × AreNodeSteps raw moves sets next

-- the node of a set of terms
pub record IsNodeOf (raw : RawTable) (sets : List (List ℕ)) (terms : List ℕ) (node : Node) : Type 0 where
  pub steps : AreStepsOf raw sets terms node.next
  pub accept : AreMinimalOffers raw terms node.accept

-- each set is the one after some trace
pub record AreReachedSets (raw : RawTable) (sets : List (List ℕ)) : Type 0 where
  pub first : IsSetAfter raw [] (set_at sets 0)
  pub not_empty : 0 < length sets
  pub each : (n : ℕ) → n < length sets → (s : List ℕ) × IsSetAfter raw s (set_at sets n)
  pub forms : (n : ℕ) → n < length sets → IsTermSet raw (set_at sets n)
  pub apart : StandOnce sets

-- the first nodes, with the sets that are numbered so far
pub record AreNodesSoFar (raw : RawTable) (sets : List (List ℕ)) (nodes : List Node) : Type 0 where
  pub fewer : length nodes ≤ length sets
  pub each : (k : ℕ) → k < length nodes → IsNodeOf raw sets (set_at sets k) (node_at nodes k)
  pub met : MeetsUpTo nodes (length sets)
  pub in_turn : (k : ℕ) → k < length nodes → (m : ℕ) × MeetsUpTo (take k nodes) m × (k < m)
