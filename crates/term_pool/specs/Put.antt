-- What it means to put processes into a list that has each process once.
use Rattle.std.specs.Prelude.{◌≡◌, ◌⊎◌, true, Some, List, [], ◌∷◌, length, slice_get}
use Rattle.csp_program.specs.declared.processes.Proc.{Proc}
use Rattle.term_pool.specs.Pooled.{Has, IsFront, PartsStandBelow}
use Rattle.term_pool.specs.Trees.{layer_below, layer_tree}
use Rattle.term_pool.specs.Within.{IsInOne}
use Rattle.term_pool.specs.Layers.{Layer}
use Rattle.pool_parts.specs.declared.place.ProcId.{ProcId}

-- each of the processes stands in the list
abbrev pub HasAll : List Proc → List Proc → Type 0
HasAll trees [] = Unit {0}
HasAll trees (p ∷ ps) = Has trees p × HasAll trees ps

-- the list grows at its end alone, stays as it is where it has all of the processes, and gets nothing but what stands in one of them
pub record Grows (old : List Proc) (new : List Proc) (ts : List Proc) : Type 0 where
  pub front : IsFront old new
  pub known : PartsStandBelow old → HasAll old ts → new ≡ old
  pub only : (u : Proc) → Has new u → Has old u ⊎ IsInOne ts u

-- the processes stand at the places, one after another
abbrev pub StandAt : List Proc → List ProcId → List Proc → Type 0
StandAt trees [] [] = Unit {0}
StandAt trees (id ∷ ids) (t ∷ ts) = (slice_get trees id.0 ≡ Some t) × StandAt trees ids ts
StandAt trees ids ts = ⊥

-- the node looks at places of the list alone, and is the process with what stands there
pub record StandsFor (trees : List Proc) (n : Layer) (t : Proc) : Type 0 where
  pub below : layer_below (length trees) n ≡ true
  pub tree : layer_tree trees n ≡ t
