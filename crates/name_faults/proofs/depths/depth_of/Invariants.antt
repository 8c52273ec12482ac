use Rattle.name_faults.proofs.Prelude.{◌≡◌, drop, max, min, slice_index, deepest_of, deepest_use}
use Rattle.name_faults.proofs.depths.depth_of.Given as goal

abbrev pub invariant-loop-d : goal.invariant-loop-d
invariant-loop-d l = max l.deepest (min (deepest_use (λ e. slice_index l.depths e) (drop l.d-index l.body.uses)) l.limit) ≡ min (deepest_of (λ e. slice_index l.depths e) l.body) l.limit
