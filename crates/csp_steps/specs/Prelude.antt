-- What is defined here, under one name for those who import it.
pub use Rattle.csp_steps.specs.Computed.{Answers, AreAdded, AreAround, AreAt, AreEach, AreMoves, AreOfChoice, AreThoseAt, GivesEach, GivesLook, GivesMoves, GivesPlace, IsListing, IsLook, IsMove, IsPlaceOf, all_within}
pub use Rattle.csp_steps.specs.Effect.{Does, Effect, IsWithin, all_moves, around, effect_as, effect_of, effect_of_layer, hidden_labels, hides, labels_by, last_by, moves_of, renamed_labels}
pub use Rattle.csp_steps.specs.Evaluated.{AreBodies, AreKept, AreNoted, AreSets, Fits, GivesNumber, HasNumber, HasSet, HasValue, IsNumbered, StandsAs, body_of, process_body}
pub use Rattle.csp_steps.specs.ExactStep.{eq_step}
pub use Rattle.csp_steps.specs.Listed.{AreStepsOf, FaultIs, seen}
pub use Rattle.csp_steps.specs.Order.AreFirstsAfter.{again, first, none}
pub use Rattle.csp_steps.specs.Order.{AreFirsts, AreFirstsAfter, AreTargets, goals, is_by}
pub use Rattle.csp_steps.specs.Walked.{AreNested, BindsNames, GivesNext, GivesRound, GivesTurned, HasGone, HasTurned, IsAfter, IsBegun, IsLonger, IsSound, IsTaken, IsTurned, IsUnder, Way, filled, frames_weight, input_ways, is_blocked, is_plain, name_of, next_weight, nth_event, number_from, number_of, number_with, number_with_value, then_ways, turn_ways, turned_ways, turned_weight, value_in, values_left, values_weight, walk_moves, walk_ways, walk_weight, way_move, ways_by_number, weight}
unfoldable pub use Rattle.csp_steps.specs.Walked.{frames_left}
pub use Rattle.csp_steps.specs.contracts.step.StepToEq.TheImpl.Laws.{laws-law}
