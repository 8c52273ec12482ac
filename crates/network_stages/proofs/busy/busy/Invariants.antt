use Rattle.network_stages.proofs.Prelude.{◌<◌, ℕ, part_at, IsBusyPart}
use Rattle.network_stages.proofs.busy.busy.Given as goal

abbrev pub invariant-loop-place : goal.invariant-loop-place
invariant-loop-place l = (j : ℕ) → j < l.place → IsBusyPart (part_at l.shape.parts j)
