use Rattle.network_layout.proofs.Prelude.{arith, subst, take, ◌++◌, ◌∷◌, [], IsCounted, alphabets}
use Rattle.network_layout.proofs.Triples.{counted_seat}
use Rattle.network_layout.proofs.triple.events_in_three.Goals as goal

pub loop-seat-preserved : goal.loop-seat-preserved
loop-seat-preserved c =
    let front = alphabets (take c.loop-seat.seat-index c.args.seats.now) in
    counted_seat c.args.seats.now c.loop-seat.seat-index c.seat-item.result (omega arith) c.seat-item.is c.in_ok-counted.counted
    (subst (λ a. IsCounted (front ++ a ∷ []) c.in_ok-counted.counted) c.alphabet.ensures (c.in_ok-counted.ensures front c.loop-seat.invariant))
