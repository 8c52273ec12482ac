-- Runs of a table that are watched by an observer: a machine with a state, which each event leads to the next one.
use Rattle.std.specs.Prelude.{◌≡◌, ℕ, List, [], ◌∷◌, get_or}
use Rattle.csp_tables.specs.Table.{Node, IsRun, end_of}

-- the state after the events, from the one before them
abbrev pub observed : (ℕ → ℕ → ℕ) → ℕ → List ℕ → ℕ
observed step state [] = state
observed step state (e ∷ s) = observed step (step state e) s

-- The run leads to the node, and to the state of an observer with these steps that starts at the state `start`.
pub record LeadsTo (table : List Node) (step : ℕ → ℕ → ℕ) (start : ℕ) (s : List ℕ) (pair : ℕ × ℕ) : Type 0 where
  pub follows : IsRun table s
  pub node : end_of table 0 s ≡ pair.0
  pub state : observed step start s ≡ pair.1

abbrev pub pair_at : List (ℕ × ℕ) → ℕ → ℕ × ℕ
pair_at pairs k = get_or pairs k (0, 0)
