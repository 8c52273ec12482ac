use Rattle.std.proofs.Common.{◌≡◌, ◌+◌, ◌++◌, ◌-◌}
use Rattle.script_names.specs.Contents as meant
use Rattle.script_contents.proofs.definitions.numbers_from.Given as goal

abbrev pub invariant-loop-place : goal.invariant-loop-place
invariant-loop-place l = record {
  made : l.made ++ meant.numbers_from l.number (l.count - l._place) ≡ meant.numbers_from l.first l.count;
  number : l.number ≡ l.first + l._place;
}
