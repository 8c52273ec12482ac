use Rattle.network_stages.proofs.Prelude.{◌<◌, ℕ, node_at}
use Rattle.network_stages.proofs.Stopping.{AreNonEmpty}
use Rattle.network_stages.proofs.busy.empty_node.Given as goal

abbrev pub invariant-loop-number : goal.invariant-loop-number
invariant-loop-number l = (n : ℕ) → n < l.number → AreNonEmpty (node_at l.part.table n).accept
