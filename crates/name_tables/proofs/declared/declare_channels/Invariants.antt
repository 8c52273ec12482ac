use Rattle.name_tables.proofs.Prelude.{◌≡◌, ◌+◌, ◌++◌, drop, channels_from, SameFirsts}
use Rattle.name_tables.proofs.declared.declare_channels.Given as goal

abbrev pub invariant-loop-x : goal.invariant-loop-x
invariant-loop-x l = record {
  names : SameFirsts (l.names ++ channels_from l.numbers.channels l.fields (drop l.x-index l.xs)) (l.initial.names ++ channels_from l.initial.numbers.channels l.fields l.xs);
  numbers : l.numbers ≡ record l.initial.numbers { channels = l.initial.numbers.channels + l.x-index };
}
