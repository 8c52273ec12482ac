use Rattle.network_layout.proofs.Prelude.{take, IsCounted, alphabets}
use Rattle.network_layout.proofs.triple.events_in_three.Given as goal

-- the alphabets so far are counted
abbrev pub invariant-loop-seat : goal.invariant-loop-seat
invariant-loop-seat l = IsCounted (alphabets (take l.seat-index l.seats)) l.counted
