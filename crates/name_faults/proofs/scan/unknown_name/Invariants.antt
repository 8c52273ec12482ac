use Rattle.name_faults.proofs.Prelude.{◌≡◌, drop, map, unknown_name, first_name, seen}
use Rattle.name_faults.proofs.scan.unknown_name.Given as goal

abbrev pub invariant-loop-said : goal.invariant-loop-said
invariant-loop-said l = first_name unknown_name (map seen (drop l.said-index l.list)) ≡ first_name unknown_name (map seen l.list)
