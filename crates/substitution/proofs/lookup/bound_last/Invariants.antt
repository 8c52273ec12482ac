use Rattle.substitution.proofs.Prelude.{◌≡◌, length, with_bound, given_by, Env}
use Rattle.substitution.proofs.lookup.bound_last.Given as goal

-- the value is the one without the names after those that are left
abbrev pub invariant-loop-last : goal.invariant-loop-last
invariant-loop-last l = (env : Env) → given_by (with_bound l.bound env) l.name ≡ given_by (with_bound l.rest env) l.name

abbrev pub decreases-loop-last : goal.decreases-loop-last
decreases-loop-last l = length l.rest
