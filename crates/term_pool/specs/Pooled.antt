-- What a pool keeps of its list of processes.
use Rattle.std.specs.Prelude.{◌≡◌, ℕ, ◌<◌, Some, List, [], ◌∷◌, slice_get}
use Rattle.csp_program.specs.declared.processes.Proc.{Proc}
use Rattle.csp_program.specs.declared.processes.Proc.TheViews.{out-Proc}
use Rattle.term_pool.specs.Layers.{layer_parts}

-- the sub-processes of a process, those directly below it
unfoldable pub parts : Proc → List Proc
parts t = layer_parts (out-Proc t)

-- whether the process stands in the list
abbrev pub Has : List Proc → Proc → Type 0
Has trees t = (k : ℕ) × (slice_get trees k ≡ Some t)

-- the first list is the front of the second one: what stands at a place stays there
abbrev pub IsFront : List Proc → List Proc → Type 0
IsFront old new = (k : ℕ) (t : Proc) → slice_get old k ≡ Some t → slice_get new k ≡ Some t

-- no process stands at two places
abbrev pub AreDifferent : List Proc → Type 0
AreDifferent trees = (i j : ℕ) (t : Proc) → slice_get trees i ≡ Some t → slice_get trees j ≡ Some t → i ≡ j

-- each of the processes stands in the list at a place below `count`
abbrev pub StandBelow : List Proc → ℕ → List Proc → Type 0
StandBelow trees count [] = Unit {0}
StandBelow trees count (p ∷ ps) = ((k : ℕ) × (k < count) × (slice_get trees k ≡ Some p)) × StandBelow trees count ps

-- the sub-processes of each process stand at smaller places than its own
abbrev pub PartsStandBelow : List Proc → Type 0
PartsStandBelow trees = (k : ℕ) (t : Proc) → slice_get trees k ≡ Some t → StandBelow trees k (parts t)
