-- How a pool keeps its processes: as nodes, all different, whose places are smaller than their own, with the measure of each.
use Rattle.std.specs.Prelude.{◌≡◌, ℕ, true, Some, List, slice_get, IfOk, OnErr, Result}
use Rattle.csp_program.specs.declared.processes.Proc.{Proc}
use Rattle.term_pool.specs.Entries.{entry_layer, layers, ArePartsOnce, Fits}
use Rattle.term_pool.specs.Layers.{Layer}
use Rattle.term_pool.specs.Measured.{AreMeasured}
use Rattle.term_pool.specs.Pooled.{Has, IsFront}
use Rattle.term_pool.specs.Trees.{fall, layer_tree, trees_of}
use Rattle.term_pool.specs.Within.{AddsOne}
use Rattle.term_pool.specs.declared.entry.Entry.{Entry}
use Rattle.pool_parts.specs.declared.measure.Measure.{Measure}
use Rattle.pool_parts.specs.declared.place.ProcId.{ProcId}
use Rattle.term_pool.specs.declared.kept.Nodes.{Nodes}
use Rattle.term_pool.specs.declared.own_parts.OwnParts.{OwnParts}
use Rattle.csp_base.specs.Lists.{EachOnce}

pub record IsHeld (nodes : List Layer) (measures : List Measure) : Type 0 where
  pub smaller : fall 0 nodes ≡ true
  pub distinct : EachOnce nodes
  pub measured : AreMeasured (trees_of nodes) measures

-- the same of entries, whose own parts stand in stores
pub record IsKept (parts : OwnParts) (entries : List Entry) (measures : List Measure) : Type 0 where
  pub fits : (k : ℕ) (e : Entry) → slice_get entries k ≡ Some e → Fits parts e
  pub once : ArePartsOnce parts
  pub held : IsHeld (layers parts entries) measures

-- the processes that entries stand for
abbrev pub processes : OwnParts → List Entry → List Proc
processes parts entries = trees_of (layers parts entries)

-- the process that an entry stands for, and those of all entries
abbrev pub entry_tree : Nodes → Entry → Proc
entry_tree nodes entry = layer_tree (processes nodes.parts nodes.entries) (entry_layer nodes.parts entry)

abbrev pub trees_in : Nodes → List Proc
trees_in nodes = processes nodes.parts nodes.entries

abbrev pub AreKept : Nodes → Type 0
AreKept nodes = IsKept nodes.parts nodes.entries nodes.measures

-- where the process t is put, the new list has it at the place that comes of it, and nothing else that is new
pub record Puts {E : Type 0} (old : List Proc) (new : List Proc) (result : Result ProcId E) (t : Proc) : Type 0 where
  pub process : IfOk result (λ id. slice_get new id.0 ≡ Some t)
  pub front : IsFront old new
  pub known : Has old t → new ≡ old
  pub only : AddsOne old new t
  pub err : OnErr result (new ≡ old)
