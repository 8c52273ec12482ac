use Rattle.resource_rule.proofs.Prelude.{◌≡◌, ◌<◌, ℕ, [], true, get_or, is_possible, node_of, IsInTurn}
use Rattle.resource_rule.proofs.user.User.all_in_turn.Given as goal

abbrev pub invariant-loop-node : goal.invariant-loop-node
invariant-loop-node l = (n e : ℕ) → n < l.node → is_possible (node_of l.self.setting.now l.self.part n).next e ≡ true → IsInTurn l.self.setting.now l.self.part (get_or l.held n []) e
