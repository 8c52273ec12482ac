use Rattle.value_laws.proofs.EventPlaces.{events_are_found}
use Rattle.value_laws.proofs.TablePlaces.{beginners_stand_together, numbers_are_places, places_are_numbers}
use Rattle.value_laws.proofs.event_numbers_are_places.Goals as goal

pub returns : goal.returns
returns c = record { found = events_are_found; numbers = numbers_are_places; places = places_are_numbers; beginners = beginners_stand_together }
