use Rattle.value_operators.proofs.Prelude.{◌≡◌, ◌++◌, length, bound_value, bound_to, numbered_from, parameters}
use Rattle.value_operators.proofs.names.argument.Given as goal

-- the name stands for what it stands for among those that are left
abbrev pub invariant-loop-param : goal.invariant-loop-param
invariant-loop-param l = bound_value (parameters l.names) l.slot ≡ bound_value (bound_to l.params l.args ++ numbered_from 0 l.names.placed.now) l.slot

abbrev pub decreases-loop-param : goal.decreases-loop-param
decreases-loop-param l = length l.params
