use Rattle.name_faults.proofs.Prelude.{◌≡◌, map, min, slice_index, take, deepest_of}
use Rattle.name_faults.proofs.depths.next_round.Given as goal

abbrev pub invariant-loop-body : goal.invariant-loop-body
invariant-loop-body l = l.next.items ≡ map (λ b. min (deepest_of (λ d. slice_index l.depths d) b) l.limit) (take l.body-index l.bodies)
