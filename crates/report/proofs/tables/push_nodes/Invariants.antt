use Rattle.report.proofs.Prelude.{◌≡◌, ◌++◌, take, nodes_text}
use Rattle.report.proofs.tables.push_nodes.Given as goal

abbrev pub invariant-loop-number : goal.invariant-loop-number
invariant-loop-number l = l.report ≡ l.fn.report ++ nodes_text l.content 0 (take l.number l.nodes)
