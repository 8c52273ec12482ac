use Rattle.name_faults.proofs.Prelude.{◌≡◌, ◌++◌, drop, map, use_of, seen, flat_map}
use Rattle.name_faults.proofs.body.uses_of.Given as goal

abbrev pub invariant-loop-said : goal.invariant-loop-said
invariant-loop-said l = l.uses ++ flat_map use_of (map seen (drop l.said-index l.list)) ≡ flat_map use_of (map seen l.list)
