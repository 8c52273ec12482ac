use Rattle.name_faults.proofs.Prelude.{◌≡◌, [], take, parameters_after, SameNames, after}
use Rattle.name_faults.proofs.walk.Walk.parameters.Given as goal

abbrev pub invariant-loop-x : goal.invariant-loop-x
invariant-loop-x l = record {
  said : l.self ≡ after l.initial.self (parameters_after [] (take l.x-index l.xs));
  before : SameNames l.before (take l.x-index l.xs);
}
