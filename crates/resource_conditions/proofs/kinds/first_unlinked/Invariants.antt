use Rattle.resource_conditions.proofs.Prelude.{◌<◌, ℕ, JoinsKinds}
use Rattle.resource_conditions.proofs.kinds.first_unlinked.Given as goal

abbrev pub invariant-loop-link : goal.invariant-loop-link
invariant-loop-link l = (m : ℕ) → m < l.link-index → JoinsKinds l.setting.shape l.setting.uses m
