use Rattle.csp_steps.proofs.Prelude.{◌≡◌, length, is_blocked}
use Rattle.csp_steps.proofs.fields.are_blocked.Given as goal

-- what is left is blocked where the whole is
abbrev pub invariant-loop-set : goal.invariant-loop-set
invariant-loop-set l = is_blocked l.fn.sets l.fn.fields ≡ is_blocked l.sets l.fields

abbrev pub decreases-loop-set : goal.decreases-loop-set
decreases-loop-set l = length l.sets
