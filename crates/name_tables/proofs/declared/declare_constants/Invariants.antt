use Rattle.name_tables.proofs.Prelude.{◌≡◌, ◌+◌, ◌++◌, drop, constants_from, SameFirsts}
use Rattle.name_tables.proofs.declared.declare_constants.Given as goal

abbrev pub invariant-loop-x : goal.invariant-loop-x
invariant-loop-x l = record {
  names : SameFirsts (l.names ++ constants_from l.numbers.constants (drop l.x-index l.xs)) (l.initial.names ++ constants_from l.initial.numbers.constants l.xs);
  numbers : l.numbers ≡ record l.initial.numbers { constants = l.initial.numbers.constants + l.x-index };
}
