use Rattle.value_laws.proofs.ProgramEvents.{places_are_values, values_are_places}
use Rattle.value_laws.proofs.events_are_their_places.Goals as goal

pub returns : goal.returns
returns c = record { values = values_are_places; places = places_are_values }
