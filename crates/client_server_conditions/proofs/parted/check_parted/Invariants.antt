use Rattle.client_server_conditions.proofs.Prelude.{ℕ, ◌<◌, HasRoles}
use Rattle.client_server_conditions.proofs.parted.check_parted.Given as goal

abbrev pub invariant-loop-part : goal.invariant-loop-part
invariant-loop-part l = (i : ℕ) → i < l.part → HasRoles l.shape l.roles i
