use Rattle.name_faults.proofs.Prelude.{◌≡◌, drop, map, wrong_count, first_name, seen}
use Rattle.name_faults.proofs.scan.wrong_count.Given as goal

abbrev pub invariant-loop-said : goal.invariant-loop-said
invariant-loop-said l = first_name wrong_count (map seen (drop l.said-index l.list)) ≡ first_name wrong_count (map seen l.list)
