use Rattle.shape_links.proofs.Prelude.{◌≡◌, ℕ, ◌<◌, true, pair_at}
use Rattle.shape_links.proofs.exploring.first_failing.Given as goal

abbrev pub invariant-loop-place : goal.invariant-loop-place
invariant-loop-place g l = (k : ℕ) → k < l.place → g.R.Requirement.meets l.required (pair_at l.pairs k).0 (pair_at l.pairs k).1 ≡ true
