use Rattle.network_layout.proofs.Prelude.{◌≡◌, ◌++◌, drop, alphabets, holders}
use Rattle.network_layout.proofs.triple.holders.Given as goal

-- those that were found, and those that are still to come
abbrev pub invariant-loop-part : goal.invariant-loop-part
invariant-loop-part l = l.made ++ holders l.part (alphabets (drop l.part l.seats)) l.event ≡ holders 0 (alphabets l.seats) l.event
