-- What is defined here, under one name for those who import it.
pub use Rattle.observed_runs.specs.Enough.{AreEnough, HasOther, HasPair, HaveEnough, SeesEnough, SeesOnly}
pub use Rattle.observed_runs.specs.Exploration.{AreDistinct, AreFound, Found, HaveOrigins, IsExploration, StepsTo}
pub use Rattle.observed_runs.specs.Marks.{AreMarked, is_marked}
pub use Rattle.observed_runs.specs.Observed.{LeadsTo, observed, pair_at}
pub use Rattle.observed_runs.specs.Observers.{holder_step, lap_step, parity_step}
pub use Rattle.observed_runs.specs.Progress.{AreEnoughSoFar, AreExplored, AreFollowed, Grows, IsAdded, IsFollowedTo, IsKept}
