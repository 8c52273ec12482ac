use Rattle.std.proofs.Common.{◌≡◌, ◌++◌, drop}
use Rattle.normal_form.proofs.marks.accept_key.Given as goal

abbrev pub invariant-loop-set : goal.invariant-loop-set
invariant-loop-set l = l.key ++ drop l.set-index l.sets ≡ l.sets
