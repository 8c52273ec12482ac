use Rattle.substitution.proofs.Prelude.{◌≡◌, length, given_by, bound_to}
use Rattle.substitution.proofs.lookup.listed_first.Given as goal

-- the value is the one among those that are left
abbrev pub invariant-loop-other : goal.invariant-loop-other
invariant-loop-other l = given_by (bound_to l.names l.values) l.name ≡ given_by (bound_to l.fn.names l.fn.values) l.name

abbrev pub decreases-loop-other : goal.decreases-loop-other
decreases-loop-other l = length l.names
