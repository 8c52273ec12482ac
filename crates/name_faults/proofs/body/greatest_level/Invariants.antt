use Rattle.name_faults.proofs.Prelude.{◌≡◌, drop, map, max, greatest_level, seen}
use Rattle.name_faults.proofs.body.greatest_level.Given as goal

abbrev pub invariant-loop-said : goal.invariant-loop-said
invariant-loop-said l = max l.level (greatest_level (map seen (drop l.said-index l.list))) ≡ greatest_level (map seen l.list)
