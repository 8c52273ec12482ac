use Rattle.report.proofs.Prelude.{◌≡◌, ◌++◌, take, flat_map, next_text}
use Rattle.report.proofs.tables.push_next.Given as goal

abbrev pub invariant-loop-step : goal.invariant-loop-step
invariant-loop-step l = l.report ≡ l.fn.report ++ flat_map (next_text l.content l.node) (take l.step-index l.steps)
