-- Tables whose nodes are numbered breadth first: whoever goes over the nodes in the order of their numbers, and over the
-- events of each in the order in which they stand there, meets the nodes in the order of their numbers (Hopcroft, Motwani
-- and Ullman, Introduction to Automata Theory, section 2.3: the lazy subset construction).
use Rattle.std.specs.Prelude.{◌≡◌, ◌<◌, ◌⊎◌, ℕ, suc, List, [], ◌∷◌, length, map, take}
use Rattle.std.specs.List.{flat_map}
use Rattle.csp_tables.specs.Table.{Node}

-- the nodes to which the steps lead, in the order of the steps
abbrev pub targets_of_steps : List (ℕ × ℕ) → List ℕ
targets_of_steps steps = map (λ step. step.1) steps

-- the same for some nodes, one after another
abbrev pub targets_of_nodes : List Node → List ℕ
targets_of_nodes nodes = flat_map (λ node. targets_of_steps node.next) nodes

-- Once the numbers below n have been met, the numbers of the list meet each new one in its turn, up to m.
abbrev pub MeetsInOrder : ℕ → List ℕ → ℕ → Type 0
MeetsInOrder n [] m = n ≡ m
MeetsInOrder n (t ∷ ts) m = ((t < n) × MeetsInOrder n ts m) ⊎ ((t ≡ n) × MeetsInOrder (suc n) ts m)

-- the steps of some nodes meet the numbers up to m, where node 0 is met from the start
abbrev pub MeetsUpTo : List Node → ℕ → Type 0
MeetsUpTo nodes m = MeetsInOrder 1 (targets_of_nodes nodes) m

pub record IsBreadthFirst (nodes : List Node) : Type 0 where
  pub all_met : MeetsUpTo nodes (length nodes)
  -- When the turn of a node comes, the nodes before it have met it.
  pub in_turn : (k : ℕ) → k < length nodes → (m : ℕ) × MeetsUpTo (take k nodes) m × (k < m)
