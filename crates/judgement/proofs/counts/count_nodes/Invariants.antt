use Rattle.judgement.proofs.Prelude.{◌≡◌, take, node_count}
use Rattle.judgement.proofs.counts.count_nodes.Given as goal

abbrev pub invariant-loop-part : goal.invariant-loop-part
invariant-loop-part l = l.count ≡ node_count (take l.part-index l.parts)
