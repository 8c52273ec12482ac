use Rattle.std.proofs.Common.{◌≡◌, ◌++◌, take}
use Rattle.script_contents.proofs.channels.add_names.Given as goal

abbrev pub invariant-loop-x : goal.invariant-loop-x
invariant-loop-x l = l.made ≡ l.initial.made ++ take l.x-index l.xs
