use Rattle.name_faults.proofs.Prelude.{◌≡◌, drop, map, repeated_name, first_of, first_name, seen}
use Rattle.name_faults.proofs.scan.repeated_name.Given as goal

abbrev pub invariant-loop-said : goal.invariant-loop-said
invariant-loop-said l = first_name (repeated_name (first_of l.names)) (map seen (drop l.said-index l.list)) ≡ first_name (repeated_name (first_of l.names)) (map seen l.list)
