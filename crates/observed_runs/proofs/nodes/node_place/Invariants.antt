use Rattle.observed_runs.proofs.Prelude.{◌≡◌, ℕ, ◌<◌, pair_at}
use Rattle.observed_runs.proofs.nodes.node_place.Given as goal

abbrev pub invariant-loop-place : goal.invariant-loop-place
invariant-loop-place l = (k : ℕ) → k < l.place → (pair_at l.pairs k).0 ≡ l.node → ⊥
