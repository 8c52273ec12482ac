-- The trees that the nodes of a pool stand for: in a list of nodes, each tree is made of those before it.
use Rattle.std.specs.Prelude.{ℕ, ◌+◌, Bool, true, ◌&&◌, nat_lt, List, [], ◌∷◌, ◌++◌, map, slice_index_or}
use Rattle.csp_program.specs.declared.processes.Proc.{Proc}
use Rattle.csp_program.specs.declared.processes.Proc.TheOpen.{Proc-F}
use Rattle.csp_program.specs.declared.processes.Proc.TheVariants as proc
use Rattle.term_pool.specs.Layers.{Layer, layer_parts, shown}
use Rattle.term_pool.specs.declared.node.Node.{Node}
use Rattle.pool_parts.specs.declared.place.ProcId.{ProcId}

-- the tree at a place
abbrev pub tree_at : List Proc → ProcId → Proc
tree_at trees id = slice_index_or trees id.0 proc.Stop

-- the node with the trees of its places
abbrev pub layer_tree : List Proc → Layer → Proc
layer_tree trees Proc-F.Stop = proc.Stop
layer_tree trees (Proc-F.Prefix head fields p) = proc.Prefix head fields (tree_at trees p)
layer_tree trees (Proc-F.Guard c p) = proc.Guard c (tree_at trees p)
layer_tree trees (Proc-F.If c p q) = proc.If c (tree_at trees p) (tree_at trees q)
layer_tree trees (Proc-F.External ps) = proc.External (map (tree_at trees) ps)
layer_tree trees (Proc-F.Internal ps) = proc.Internal (map (tree_at trees) ps)
layer_tree trees (Proc-F.EachExternal x s p) = proc.EachExternal x s (tree_at trees p)
layer_tree trees (Proc-F.EachInternal x s p) = proc.EachInternal x s (tree_at trees p)
layer_tree trees (Proc-F.Hide p s) = proc.Hide (tree_at trees p) s
layer_tree trees (Proc-F.Rename p pairs gens) = proc.Rename (tree_at trees p) pairs gens
layer_tree trees (Proc-F.Call d args) = proc.Call d args
layer_tree trees Proc-F.Skip = proc.Skip
layer_tree trees (Proc-F.Seq p q) = proc.Seq (tree_at trees p) (tree_at trees q)
layer_tree trees Proc-F.Ended = proc.Ended

-- whether each place is one of the first so many
abbrev pub all_below : ℕ → List ProcId → Bool
all_below count [] = true
all_below count (id ∷ ids) = nat_lt id.0 count && all_below count ids

abbrev pub layer_below : ℕ → Layer → Bool
layer_below count n = all_below count (layer_parts n)

-- the trees, followed by the trees of the nodes
abbrev pub grown : List Proc → List Layer → List Proc
grown trees [] = trees
grown trees (n ∷ ns) = grown (trees ++ layer_tree trees n ∷ []) ns

abbrev pub trees_of : List Layer → List Proc
trees_of = grown []

-- whether each node's places are smaller than its own, the first of them having the place `count`
abbrev pub fall : ℕ → List Layer → Bool
fall count [] = true
fall count (n ∷ ns) = layer_below count n && fall (count + 1) ns

-- the process that a node is, with the processes at its places
abbrev pub tree_of : List Proc → Node → Proc
tree_of trees n = layer_tree trees (shown n)

-- the places of a node's sub-processes
abbrev pub places : Node → List ProcId
places n = layer_parts (shown n)

abbrev pub places_below : ℕ → Node → Bool
places_below count n = all_below count (places n)
