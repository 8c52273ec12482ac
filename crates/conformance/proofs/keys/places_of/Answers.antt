use Rattle.conformance.proofs.Prelude.{ℕ, List, subst, arith, slice_index, IsOneToOne}
use Rattle.conformance.proofs.Keying.{one_to_one}
use Rattle.conformance.proofs.keys.places_of.Goals as goal

pub returns : goal.returns
returns c =
    subst (λ (a : List ℕ). IsOneToOne a (slice_index c.loop-place.places.items)) c.in_ok-events.ensures
    (one_to_one c.in_ok-events.events c.loop-place.places.items c.loop-place.place (omega (arith, c.loop-place-test.false, c.loop-place.auto.place-end, c.len-place-end.ensures)) c.loop-place.invariant)
