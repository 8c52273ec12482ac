use Rattle.resource_conditions.proofs.Prelude.{◌<◌, ℕ, HasParted}
use Rattle.resource_conditions.proofs.kinds.first_unparted.Given as goal

abbrev pub invariant-loop-part : goal.invariant-loop-part
invariant-loop-part l = (j : ℕ) → j < l.part → HasParted l.setting j
