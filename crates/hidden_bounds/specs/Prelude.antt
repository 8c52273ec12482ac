-- What is defined here, under one name for those who import it.
pub use Rattle.hidden_bounds.specs.Found.{IsBound, PassesAt, TellsLoop, placed}
pub use Rattle.hidden_bounds.specs.Own.{GoesRoundItself, IsOwnHeight}
pub use Rattle.hidden_bounds.specs.Scopes.{AreTakenFar, IsFree, IsLeast, IsScope, IsTaking}
pub use Rattle.hidden_bounds.specs.Standings.{AreKnown, AreReopened, IsFreeHere, IsKnown, IsLeastFree, IsSoFar, IsTakenFar, StayKnown, left_from, left_one, one_more, one_waiting, reopened_to, standing_at, waiting}
pub use Rattle.hidden_bounds.specs.Sums.{AreBounds, IsNextSum, TellsSum, bound_at, sum_before}
pub use Rattle.hidden_bounds.specs.Taking.{AreWithin, alphabet_at, alphabet_of, taken_at}
unfoldable pub use Rattle.hidden_bounds.specs.Taking.{taken_in}
