use Rattle.observed_runs.proofs.Prelude.{[], get_or, IsFollowedTo, pair_at}
use Rattle.observed_runs.proofs.exploring.follow.Given as goal

abbrev pub invariant-loop-step : goal.invariant-loop-step
invariant-loop-step g l =
    IsFollowedTo l.part.table (g.O.Observer.step l.observer) l.initial.found.pairs l.place (get_or l.rows (pair_at l.initial.found.pairs l.place).0 []) l.step-index l.found
