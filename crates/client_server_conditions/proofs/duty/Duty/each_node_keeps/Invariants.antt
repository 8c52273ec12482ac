use Rattle.client_server_conditions.proofs.Prelude.{◌<◌, ℕ, [], get_or, KeepsOpened}
use Rattle.client_server_conditions.proofs.duty.Duty.each_node_keeps.Given as goal

abbrev pub invariant-loop-node : goal.invariant-loop-node
invariant-loop-node l = (n : ℕ) → n < l.node → KeepsOpened l.self l.self.condition n (get_or l.opened n [])
