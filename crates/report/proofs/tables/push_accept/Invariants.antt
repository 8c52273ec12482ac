use Rattle.report.proofs.Prelude.{◌≡◌, ◌++◌, take, flat_map, accept_text}
use Rattle.report.proofs.tables.push_accept.Given as goal

abbrev pub invariant-loop-set : goal.invariant-loop-set
invariant-loop-set l = l.report ≡ l.fn.report ++ flat_map (accept_text l.content l.node) (take l.set-index l.sets)
