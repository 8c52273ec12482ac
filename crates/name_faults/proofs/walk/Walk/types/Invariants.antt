use Rattle.name_faults.proofs.Prelude.{◌≡◌, take, first_of, types_say, after}
use Rattle.name_faults.proofs.walk.Walk.types.Given as goal

abbrev pub invariant-loop-tree : goal.invariant-loop-tree
invariant-loop-tree l = l.self ≡ after l.initial.self (types_say (first_of l.initial.self.names) (take l.tree-index l.types))
