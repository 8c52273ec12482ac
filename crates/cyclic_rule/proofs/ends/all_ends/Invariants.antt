use Rattle.std.proofs.Common.{◌≡◌, map, take}
use Rattle.design_rules.specs.CyclicFaults.{ends_of}
use Rattle.cyclic_rule.proofs.ends.all_ends.Given as goal

abbrev pub invariant-loop-link : goal.invariant-loop-link
invariant-loop-link l = l.made ≡ map (ends_of l.shape) (take l.link-index l.links)
