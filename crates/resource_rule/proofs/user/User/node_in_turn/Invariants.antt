use Rattle.resource_rule.proofs.Prelude.{◌<◌, ℕ, pair_at, IsInTurn}
use Rattle.resource_rule.proofs.user.User.node_in_turn.Given as goal

abbrev pub invariant-loop-event : goal.invariant-loop-event
invariant-loop-event l = (k : ℕ) → k < l.event-index → IsInTurn l.self.setting.now l.self.part l.held (pair_at l.event-items k).0
