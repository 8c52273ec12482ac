-- The table of a component: numbered nodes, node 0 first. A node has the events that are possible there, each with the
-- node to which it leads, and a list of acceptances, which are sets of events.
use Rattle.std.specs.Prelude.{◌≡◌, ℕ, List, [], ◌∷◌, Bool, true, false, ◌&&◌, ◌||◌, IsTrue, nat_eq, if◌then◌else◌, get_or}

pub record Node : Type 0 where
  pub next : List (ℕ × ℕ)
  pub accept : List (List ℕ)

-- a node without events and without acceptances, which stands past a table's end
abbrev pub no_node : Node
no_node = record { next = []; accept = [] }

abbrev pub node_at : List Node → ℕ → Node
node_at table n = get_or table n no_node

-- whether the event is possible
abbrev pub is_possible : List (ℕ × ℕ) → ℕ → Bool
is_possible [] e = false
is_possible (step ∷ steps) e = nat_eq step.0 e || is_possible steps e

-- the node to which the event leads, 0 where it is not possible
abbrev pub target : List (ℕ × ℕ) → ℕ → ℕ
target [] e = 0
target (step ∷ steps) e = if nat_eq step.0 e then step.1 else target steps e

abbrev pub node_after : List Node → ℕ → ℕ → ℕ
node_after table n e = target (node_at table n).next e

-- whether the events can be followed in this order from the node n
abbrev pub is_run : List Node → ℕ → List ℕ → Bool
is_run table n [] = true
is_run table n (e ∷ s) = is_possible (node_at table n).next e && is_run table (node_after table n e) s

-- the node to which the events lead from the node n
abbrev pub end_of : List Node → ℕ → List ℕ → ℕ
end_of table n [] = n
end_of table n (e ∷ s) = end_of table (node_after table n e) s

-- the acceptances of the node to which the events lead from the first one
abbrev pub acceptances_after : List Node → List ℕ → List (List ℕ)
acceptances_after table s = (node_at table (end_of table 0 s)).accept

-- the events are followed from the first node
abbrev pub IsRun : List Node → List ℕ → Type 0
IsRun table s = IsTrue (is_run table 0 s)

-- A node is reached where events lead to it from the first node.
pub record IsReached (table : List Node) (n : ℕ) : Type 0 where
  pub run : List ℕ
  pub follows : IsRun table run
  pub leads : end_of table 0 run ≡ n
