use Rattle.conformance.proofs.Keying.{ArePlaces}
use Rattle.conformance.proofs.keys.places_of.Given as goal

abbrev pub invariant-loop-place : goal.invariant-loop-place
invariant-loop-place l = ArePlaces l.events l.place l.places.items
