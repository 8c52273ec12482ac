use Rattle.observed_runs.proofs.Prelude.{◌<◌, ◌++◌, ℕ, List, length, reverse, Node, LeadsTo, pair_at, AreFound}
use Rattle.observed_runs.proofs.explored.Explored.run_to.Given as goal

abbrev pub invariant-loop-at : goal.invariant-loop-at
invariant-loop-at l = record {
  within : l.at < length l.self.pairs;
  leads : (table : List Node) (step : ℕ → ℕ → ℕ) (start : ℕ) → AreFound table step start l.self → (s : List ℕ) → LeadsTo table step start s (pair_at l.self.pairs l.at) → LeadsTo table step start (s ++ reverse l.events.items) (pair_at l.self.pairs l.place);
}

abbrev pub decreases-loop-at : goal.decreases-loop-at
decreases-loop-at l = l.at
