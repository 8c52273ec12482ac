use Rattle.std.proofs.Common.{◌≡◌, ◌++◌, drop}
use Rattle.normal_form.proofs.merge.copies.Given as goal

abbrev pub invariant-loop-set : goal.invariant-loop-set
invariant-loop-set l = l.made.items ++ drop l.set-index l.sets ≡ l.sets
