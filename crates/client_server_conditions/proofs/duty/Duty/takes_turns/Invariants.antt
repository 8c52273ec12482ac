use Rattle.client_server_conditions.proofs.Prelude.{◌<◌, ℕ, pair_at, IsInTurn}
use Rattle.client_server_conditions.proofs.duty.Duty.takes_turns.Given as goal

abbrev pub invariant-loop-event : goal.invariant-loop-event
invariant-loop-event l = (k : ℕ) → k < l.event-index → IsInTurn l.self l.opened (pair_at l.event-items k).0
