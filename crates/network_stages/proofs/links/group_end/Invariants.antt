use Rattle.network_stages.proofs.Prelude.{◌≡◌, ◌-◌, ◌<◌, ◌≤◌, ℕ, length, pair_at}
use Rattle.network_stages.proofs.links.group_end.Given as goal

abbrev pub invariant-loop-end : goal.invariant-loop-end
invariant-loop-end l = (l.start < l.end) × (l.end ≤ length l.row) × ((k : ℕ) → l.start ≤ k → k < l.end → (pair_at l.row k).0 ≡ (pair_at l.row l.start).0)

abbrev pub decreases-loop-end : goal.decreases-loop-end
decreases-loop-end l = length l.row - l.end
