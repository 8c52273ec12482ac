-- A process with another one in place of its first sub-process, and a node with another place in place of its first.
use Rattle.std.specs.Prelude.{List, [], ◌∷◌}
use Rattle.csp_program.specs.declared.processes.Proc.{Proc}
use Rattle.csp_program.specs.declared.processes.Proc.TheOpen.{Proc-F}
use Rattle.csp_program.specs.declared.processes.Proc.TheViews.{out-Proc}
use Rattle.csp_program.specs.declared.processes.Proc.TheVariants as proc
use Rattle.term_pool.specs.Layers.{Layer}
use Rattle.pool_parts.specs.declared.place.ProcId.{ProcId}

-- the list with another first element, if it has any
abbrev pub other_first : {A : Type 0} → List A → A → List A
other_first [] q = []
other_first (p ∷ ps) q = q ∷ ps

-- one layer of a process with q in place of its first sub-process
abbrev pub layer_with_first : Proc-F Proc → Proc → Proc
layer_with_first Proc-F.Stop q = proc.Stop
layer_with_first (Proc-F.Prefix head fields p) q = proc.Prefix head fields q
layer_with_first (Proc-F.Guard c p) q = proc.Guard c q
layer_with_first (Proc-F.If c p r) q = proc.If c q r
layer_with_first (Proc-F.External ps) q = proc.External (other_first ps q)
layer_with_first (Proc-F.Internal ps) q = proc.Internal (other_first ps q)
layer_with_first (Proc-F.EachExternal x s p) q = proc.EachExternal x s q
layer_with_first (Proc-F.EachInternal x s p) q = proc.EachInternal x s q
layer_with_first (Proc-F.Hide p s) q = proc.Hide q s
layer_with_first (Proc-F.Rename p pairs gens) q = proc.Rename q pairs gens
layer_with_first (Proc-F.Call d args) q = proc.Call d args
layer_with_first Proc-F.Skip q = proc.Skip
layer_with_first (Proc-F.Seq p r) q = proc.Seq q r
layer_with_first Proc-F.Ended q = proc.Ended

-- the process with q in place of its first sub-process; one without sub-processes stays
unfoldable pub with_first : Proc → Proc → Proc
with_first t q = layer_with_first (out-Proc t) q

-- the node with the place q in place of its first
abbrev pub node_with_first : Layer → ProcId → Layer
node_with_first Proc-F.Stop q = Proc-F.Stop
node_with_first (Proc-F.Prefix head fields p) q = Proc-F.Prefix head fields q
node_with_first (Proc-F.Guard c p) q = Proc-F.Guard c q
node_with_first (Proc-F.If c p r) q = Proc-F.If c q r
node_with_first (Proc-F.External ps) q = Proc-F.External (other_first ps q)
node_with_first (Proc-F.Internal ps) q = Proc-F.Internal (other_first ps q)
node_with_first (Proc-F.EachExternal x s p) q = Proc-F.EachExternal x s q
node_with_first (Proc-F.EachInternal x s p) q = Proc-F.EachInternal x s q
node_with_first (Proc-F.Hide p s) q = Proc-F.Hide q s
node_with_first (Proc-F.Rename p pairs gens) q = Proc-F.Rename q pairs gens
node_with_first (Proc-F.Call d args) q = Proc-F.Call d args
node_with_first Proc-F.Skip q = Proc-F.Skip
node_with_first (Proc-F.Seq p r) q = Proc-F.Seq q r
node_with_first Proc-F.Ended q = Proc-F.Ended
