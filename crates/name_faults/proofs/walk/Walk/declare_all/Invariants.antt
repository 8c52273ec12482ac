use Rattle.name_faults.proofs.Prelude.{◌≡◌, ◌++◌, take, declared_after, SameNames, after}
use Rattle.name_faults.proofs.walk.Walk.declare_all.Given as goal

abbrev pub invariant-loop-x : goal.invariant-loop-x
invariant-loop-x l = record {
  said : l.self ≡ after l.initial.self (declared_after l.initial.declared (take l.x-index l.xs));
  declared : SameNames l.declared (l.initial.declared ++ take l.x-index l.xs);
}
