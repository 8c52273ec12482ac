-- Finite runs of a labelled transition system. A system is any relation: Step s l t says that the state s has a step
-- labelled l to the state t. Nothing is assumed of the states.
use Rattle.std.specs.Prelude.{◌≡◌, ℕ, List, [], ◌∷◌}
use Rattle.digraph.specs.Walk.{Walk}
use Rattle.csp_tables.specs.Label.{Label}
use Rattle.csp_tables.specs.Label.Label.{silent}

-- Path Step s ls t: steps with the labels ls, in this order, lead from s to t.
abbrev pub Path : {S : Type 0} → (S → Label → S → Type 0) → S → List Label → S → Type 0
Path Step s [] t = s ≡ t
Path {S} Step s (l ∷ ls) t = (m : S) × Step s l m × Path Step m ls t

-- Some run leads from s to t.
abbrev pub Reached : {S : Type 0} → (S → Label → S → Type 0) → S → S → Type 0
Reached Step s t = (ls : List Label) × Path Step s ls t

-- The silent steps alone, as arcs between states.
abbrev pub SilentStep : {S : Type 0} → (S → Label → S → Type 0) → S → S → Type 0
SilentStep Step s t = Step s silent t

-- n silent steps in a row lead from s to t.
abbrev pub Silently : {S : Type 0} → (S → Label → S → Type 0) → ℕ → S → S → Type 0
Silently Step n s t = Walk (SilentStep Step) n s t

-- The state has no silent step.
abbrev pub Stable : {S : Type 0} → (S → Label → S → Type 0) → S → Type 0
Stable {S} Step s = (t : S) → Step s silent t → ⊥
