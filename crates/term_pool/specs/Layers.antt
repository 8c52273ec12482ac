-- One layer of a process that stands in a pool: its own parts, and the places of its sub-processes.
use Rattle.std.specs.Prelude.{List, [], ◌∷◌}
use Rattle.csp_program.specs.declared.processes.Proc.TheOpen.{Proc-F}
use Rattle.pool_parts.specs.declared.place.ProcId.{ProcId}
use Rattle.term_pool.specs.declared.node.Node.{Node}
use Rattle.term_pool.specs.declared.node.Node.TheVariants as node

abbrev pub Layer : Type 0
Layer = Proc-F ProcId

-- the sub-processes of a layer, or their places
abbrev pub layer_parts : {A : Type 0} → Proc-F A → List A
layer_parts Proc-F.Stop = []
layer_parts (Proc-F.Prefix head fields p) = p ∷ []
layer_parts (Proc-F.Guard c p) = p ∷ []
layer_parts (Proc-F.If c p q) = p ∷ q ∷ []
layer_parts (Proc-F.External ps) = ps
layer_parts (Proc-F.Internal ps) = ps
layer_parts (Proc-F.EachExternal x s p) = p ∷ []
layer_parts (Proc-F.EachInternal x s p) = p ∷ []
layer_parts (Proc-F.Hide p s) = p ∷ []
layer_parts (Proc-F.Rename p pairs gens) = p ∷ []
layer_parts (Proc-F.Call d args) = []
layer_parts Proc-F.Skip = []
layer_parts (Proc-F.Seq p q) = p ∷ q ∷ []
layer_parts Proc-F.Ended = []

-- the layer that a node shows
abbrev pub shown : Node → Layer
shown node.Stop = Proc-F.Stop
shown (node.Prefix head fields p) = Proc-F.Prefix head.now fields.now p
shown (node.Guard c p) = Proc-F.Guard c.now p
shown (node.If c p q) = Proc-F.If c.now p q
shown (node.External ps) = Proc-F.External ps.now
shown (node.Internal ps) = Proc-F.Internal ps.now
shown (node.EachExternal x s p) = Proc-F.EachExternal x s.now p
shown (node.EachInternal x s p) = Proc-F.EachInternal x s.now p
shown (node.Hide p s) = Proc-F.Hide p s.now
shown (node.Rename p pairs gens) = Proc-F.Rename p pairs.now gens.now
shown (node.Call d args) = Proc-F.Call d args.now
shown node.Skip = Proc-F.Skip
shown (node.Seq p q) = Proc-F.Seq p q
shown node.Ended = Proc-F.Ended
