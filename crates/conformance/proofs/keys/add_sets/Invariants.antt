use Rattle.conformance.proofs.Prelude.{◌≡◌, ◌++◌, drop, slice_index, flat_map, set_code}
use Rattle.conformance.proofs.keys.add_sets.Given as goal

abbrev pub invariant-loop-set : goal.invariant-loop-set
invariant-loop-set l = l.key ++ flat_map (set_code (slice_index l.places)) (drop l.set-index l.sets) ≡ l.initial.key ++ flat_map (set_code (slice_index l.places)) l.sets
