use Rattle.std.proofs.Common.{◌≡◌, ◌++◌, take}
use Rattle.name_faults.proofs.walk.Walk.bind_all.Given as goal

abbrev pub invariant-loop-x : goal.invariant-loop-x
invariant-loop-x l = l.self ≡ record l.initial.self { bound = l.initial.self.bound ++ take l.x-index l.xs }
