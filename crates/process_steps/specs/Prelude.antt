-- What is defined here, under one name for those who import it.
pub use Rattle.process_steps.specs.ComponentStep.{ProcessStep, Ticks}
pub use Rattle.process_steps.specs.LacksNone.FieldsLackNone.{none}
pub use Rattle.process_steps.specs.LacksNone.{FieldsLackNone, LacksNone}
pub use Rattle.process_steps.specs.Laws.{ListsAreSteps, ListsAreThere}
pub use Rattle.process_steps.specs.Needed.{all_outcomes, arguments_in, arguments_under, called, events_in, events_under, needed_events, set_in, truth_in, truth_under}
pub use Rattle.process_steps.specs.Prefix.Fills.{filled, input, output}
pub use Rattle.process_steps.specs.Prefix.{Fills, event_of, given_under, is_given, set_under, value_under}
pub use Rattle.process_steps.specs.Renaming.{Renamed, event_with, images, pair_renamed, renaming_in, values_after}
pub use Rattle.process_steps.specs.Step.Step.{call, each_external, each_internal, event, external_event, external_silent, external_tick, guard, hide_hidden, hide_seen, hide_silent, hide_tick, if_false, if_true, internal, prefix, rename_event, rename_silent, rename_tick, sequence_event, sequence_silent, sequence_tick, skip}
pub use Rattle.process_steps.specs.Step.{Step, each_put}
pub use Rattle.process_steps.specs.StepList.{ListsMove, Move, in_choice, in_hiding, in_renaming, in_sequence, silent_to, some_silent_to, steps_of_choice, steps_of_layer}
unfoldable pub use Rattle.process_steps.specs.StepList.{steps_of, steps_within}
pub use Rattle.process_steps.specs.Ways.{Among, Way, channel, each_joined, event_among, of_channel, of_head, of_value, sets_among, ways_to_fill, where_given}
