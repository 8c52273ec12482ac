use Rattle.name_faults.proofs.Prelude.{◌≡◌, drop, map, is_wrong_kind, list_any, seen}
use Rattle.name_faults.proofs.scan.is_any_wrong_kind.Given as goal

abbrev pub invariant-loop-said : goal.invariant-loop-said
invariant-loop-said l = list_any (is_wrong_kind l.kinds) (map seen (drop l.said-index l.list)) ≡ list_any (is_wrong_kind l.kinds) (map seen l.list)
