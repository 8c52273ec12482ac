-- The order in which a numbered table has the steps from a term.
use Rattle.std.specs.Prelude.{ℕ, nat_eq, ◌&&◌, if◌then◌else◌, List, [], ◌∷◌}
use Rattle.csp_tables.specs.Label.{Label}
use Rattle.csp_tables.specs.Label.Label.{silent, visible}
use Rattle.csp_tables.specs.RawTable.{RawTable}

-- to which numbers the silent steps from m lead, in their order
abbrev pub silent_targets : ℕ → List (ℕ × ℕ) → List ℕ
silent_targets m [] = []
silent_targets m (s ∷ steps) = if nat_eq m s.0 then s.1 ∷ silent_targets m steps else silent_targets m steps

-- to which the steps from m by the event e lead
abbrev pub event_targets : ℕ → ℕ → List (ℕ × ℕ × ℕ) → List ℕ
event_targets m e [] = []
event_targets m e (s ∷ steps) = if nat_eq m s.0 && nat_eq e s.1 then s.2 ∷ event_targets m e steps else event_targets m e steps

-- to which numbers the table leads from m by a label, in the order of its lists
abbrev pub targets_in : RawTable → ℕ → Label → List ℕ
targets_in raw m silent = silent_targets m raw.silent
targets_in raw m (visible e) = event_targets m e raw.steps
