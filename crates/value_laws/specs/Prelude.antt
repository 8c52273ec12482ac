-- What is defined here, under one name for those who import it.
pub use Rattle.value_laws.specs.Bindings.{BeginsWith, BeginsWithOne, ComprehensionsHoldTheirItems, IsBinding, IsItem, IsSetValue, ProductionsHoldWhatBegins}
pub use Rattle.value_laws.specs.EnoughUses.{DefinitionsAreEnough, MoreUsesChangeNothing, UnboundedIsWorth, UsesNestWithinDefinitions, WorthIsUnbounded}
pub use Rattle.value_laws.specs.EventNumbers.{BeginnersStandTogether, HasSets, HaveValues, NumbersArePlaces, PlacesAreNumbers, StandsAt, computed_number}
pub use Rattle.value_laws.specs.Numbers.{AllRise, ChannelsFit, EventsAreFound, events_each, events_from, field_place, fields_number, first_of, found_place, front_count, front_number, span}
pub use Rattle.value_laws.specs.ProgramEvents.{IsEventAt, PlacesAreValues, ValuesArePlaces}
pub use Rattle.value_laws.specs.ValuesInOrder.{EnvIsInOrder, ValuesAreInOrder}
