-- The measures of the processes of a pool: a node's measure is made of that of its own expressions, fields, pairs and generators and of those at
-- its places.
use Rattle.std.specs.Prelude.{◌≡◌, ℕ, ◌+◌, ◌≤◌, max, List, [], ◌∷◌, map, length, slice_index_or}
use Rattle.csp_base.specs.Lists.{greatest, total}
use Rattle.csp_program.specs.Prelude.{expr_depth, field_depth, gen_depth, pair_depth, proc_depth, Names, any_of, before, either, expr_free, gen_binding, head_free, nowhere, pair_free, proc_free, under, expr_size, field_size, gen_size, pair_size, proc_size}
use Rattle.csp_program.specs.declared.processes.Proc.{Proc}
use Rattle.csp_program.specs.declared.processes.Proc.TheOpen.{Proc-F}
use Rattle.pool_parts.specs.Prelude.{capped, IsLow, AreNoted, IsMeasure}
use Rattle.pool_parts.specs.declared.measure.Measure.{Measure}
use Rattle.pool_parts.specs.declared.place.ProcId.{ProcId}
use Rattle.term_pool.specs.Layers.{Layer, layer_parts}

-- what a process measures
abbrev pub Measures : Proc → Measure → Type 0
Measures t m = IsMeasure proc_depth proc_size proc_free t m

-- each process is measured
pub record AreMeasured (trees : List Proc) (measures : List Measure) : Type 0 where
  pub length : length measures ≡ length trees
  pub noted : AreNoted proc_depth proc_size proc_free measures trees

-- the greatest depth among a node's own parts
abbrev pub own_depth : Layer → ℕ
own_depth (Proc-F.Prefix head fields p) = greatest (map field_depth fields)
own_depth (Proc-F.Guard c p) = expr_depth c
own_depth (Proc-F.If c p q) = expr_depth c
own_depth (Proc-F.EachExternal x s p) = expr_depth s
own_depth (Proc-F.EachInternal x s p) = expr_depth s
own_depth (Proc-F.Hide p s) = expr_depth s
own_depth (Proc-F.Rename p pairs gens) = max (greatest (map pair_depth pairs)) (greatest (map gen_depth gens))
own_depth (Proc-F.Call d args) = greatest (map expr_depth args)
own_depth other = 0

-- the sizes of a node's own parts together
abbrev pub own_size : Layer → ℕ
own_size (Proc-F.Prefix head fields p) = total (map field_size fields)
own_size (Proc-F.Guard c p) = expr_size c
own_size (Proc-F.If c p q) = expr_size c
own_size (Proc-F.EachExternal x s p) = expr_size s
own_size (Proc-F.EachInternal x s p) = expr_size s
own_size (Proc-F.Hide p s) = expr_size s
own_size (Proc-F.Rename p pairs gens) = total (map pair_size pairs) + total (map gen_size gens)
own_size (Proc-F.Call d args) = total (map expr_size args)
own_size other = 0

-- the names that a node's own parts read
abbrev pub own_free : Layer → Names
own_free (Proc-F.Prefix head fields p) = either (head_free head) (before fields nowhere)
own_free (Proc-F.Guard c p) = expr_free c
own_free (Proc-F.If c p q) = expr_free c
own_free (Proc-F.EachExternal x s p) = expr_free s
own_free (Proc-F.EachInternal x s p) = expr_free s
own_free (Proc-F.Hide p s) = expr_free s
own_free (Proc-F.Rename p pairs gens) = either (any_of (map pair_free pairs)) (under (map gen_binding gens) nowhere)
own_free (Proc-F.Call d args) = any_of (map expr_free args)
own_free other = nowhere

-- the measure at a place
abbrev pub measure_at : List Measure → ProcId → Measure
measure_at measures id = slice_index_or measures id.0 (record { depth = 0; size = 0; least = 0 })

abbrev pub depth_at : List Measure → ProcId → ℕ
depth_at measures id = (measure_at measures id).depth

abbrev pub size_at : List Measure → ProcId → ℕ
size_at measures id = (measure_at measures id).size

-- the measures at the places of a node
abbrev pub deepest_at : List Measure → List ProcId → ℕ
deepest_at measures ids = greatest (map (depth_at measures) ids)

abbrev pub total_at : List Measure → List ProcId → ℕ
total_at measures ids = total (map (size_at measures) ids)

-- the number is none above that of each of the places
abbrev pub IsLeastAt : List Measure → ℕ → List ProcId → Type 0
IsLeastAt measures least [] = Unit {0}
IsLeastAt measures least (id ∷ ids) = (least ≤ (measure_at measures id).least) × IsLeastAt measures least ids

-- a node's depth and size, from the measures at its places
abbrev pub node_depth : List Measure → Layer → ℕ
node_depth measures n = capped (1 + max (capped (own_depth n)) (deepest_at measures (layer_parts n)))

abbrev pub node_size : List Measure → Layer → ℕ
node_size measures n = capped (1 + capped (capped (own_size n) + capped (total_at measures (layer_parts n))))

-- what a node measures, from the measures at its places
pub record IsNodeMeasure (measures : List Measure) (n : Layer) (m : Measure) : Type 0 where
  pub depth : m.depth ≡ node_depth measures n
  pub size : m.size ≡ node_size measures n
  pub own : IsLow m.least (own_free n)
  pub places : IsLeastAt measures m.least (layer_parts n)
