use Rattle.value_operators.proofs.Prelude.{◌≡◌, length, bound_value, env_in, parameters, with_bound}
use Rattle.value_operators.proofs.names.bound_value.Given as goal

-- the name stands for what it stands for without the names after those that are left
abbrev pub invariant-loop-last : goal.invariant-loop-last
invariant-loop-last l = bound_value (env_in l.names) l.slot ≡ bound_value (with_bound l.rest (parameters l.names)) l.slot

abbrev pub decreases-loop-last : goal.decreases-loop-last
decreases-loop-last l = length l.rest
