use Rattle.client_server_conditions.proofs.Deciding.{KeepsBelow}
use Rattle.client_server_conditions.proofs.runs.check.Given as goal

abbrev pub invariant-loop-part : goal.invariant-loop-part
invariant-loop-part l = KeepsBelow l.network l.condition l.part
