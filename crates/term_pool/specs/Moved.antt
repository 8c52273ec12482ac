-- A layer with other parts in place of its own, one after another.
use Rattle.std.specs.Prelude.{ℕ, List, slice_index_or}
use Rattle.csp_program.specs.declared.processes.Proc.TheOpen.{Proc-F}
use Rattle.pool_parts.specs.declared.place.ProcId.{ProcId}
use Rattle.term_pool.specs.Layers.{Layer}

-- where there are too few parts, `other` stands
abbrev pub with_parts : {A B : Type 0} → B → Proc-F A → List B → Proc-F B
with_parts other Proc-F.Stop ps = Proc-F.Stop
with_parts other (Proc-F.Prefix head fields p) ps = Proc-F.Prefix head fields (slice_index_or ps 0 other)
with_parts other (Proc-F.Guard c p) ps = Proc-F.Guard c (slice_index_or ps 0 other)
with_parts other (Proc-F.If c p q) ps = Proc-F.If c (slice_index_or ps 0 other) (slice_index_or ps 1 other)
with_parts other (Proc-F.External qs) ps = Proc-F.External ps
with_parts other (Proc-F.Internal qs) ps = Proc-F.Internal ps
with_parts other (Proc-F.EachExternal x s p) ps = Proc-F.EachExternal x s (slice_index_or ps 0 other)
with_parts other (Proc-F.EachInternal x s p) ps = Proc-F.EachInternal x s (slice_index_or ps 0 other)
with_parts other (Proc-F.Hide p s) ps = Proc-F.Hide (slice_index_or ps 0 other) s
with_parts other (Proc-F.Rename p pairs gens) ps = Proc-F.Rename (slice_index_or ps 0 other) pairs gens
with_parts other (Proc-F.Call d args) ps = Proc-F.Call d args
with_parts other Proc-F.Skip ps = Proc-F.Skip
with_parts other (Proc-F.Seq p q) ps = Proc-F.Seq (slice_index_or ps 0 other) (slice_index_or ps 1 other)
with_parts other Proc-F.Ended ps = Proc-F.Ended

-- the place at an index of the list, 0 where the list is too short
abbrev pub id_or : List ProcId → ℕ → ProcId
id_or ids k = slice_index_or ids k (record { 0 = 0 })

abbrev pub moved : {A : Type 0} → Proc-F A → List ProcId → Layer
moved n ids = with_parts (record { 0 = 0 }) n ids
