-- A component of a shape as it runs, and what is asked of it after its runs. (No rule's decider cites this.)
use Rattle.std.specs.Prelude.{◌≡◌, ◌<◌, ℕ, List, Bool, true, false, Option, Some, None, length}
use Rattle.csp_tables.specs.Prelude.{Node, RunsTo, Shape, part_at}
use Rattle.observed_runs.specs.Prelude.{pair_at}
use Rattle.shape_links.specs.declared.component.Component.{Component}

abbrev pub table_of : Component → List Node
table_of c = (part_at c.shape.now.parts c.number).table

-- P holds after each run of the part i, or here is a run after which it does not
abbrev pub IsDecided : Shape → ℕ → (List ℕ → Type 0) → Option (List ℕ) → Type 0
IsDecided shape i P None = (s : List ℕ) → RunsTo shape i s → P s
IsDecided shape i P (Some s) = RunsTo shape i s × (P s → ⊥)

-- the place of a pair of a node and a state that does not meet what is required, or each one does
abbrev pub IsFirstFailing : (ℕ → ℕ → Bool) → List (ℕ × ℕ) → Option ℕ → Type 0
IsFirstFailing meets pairs None = (k : ℕ) → k < length pairs → meets (pair_at pairs k).0 (pair_at pairs k).1 ≡ true
IsFirstFailing meets pairs (Some k) = (k < length pairs) × (meets (pair_at pairs k).0 (pair_at pairs k).1 ≡ false)
