use Rattle.report.proofs.Prelude.{◌≡◌, ◌++◌, take, flat_map, move_text}
use Rattle.report.proofs.runs.push_moves.Given as goal

abbrev pub invariant-loop-step : goal.invariant-loop-step
invariant-loop-step l = l.report ≡ l.fn.report ++ flat_map (move_text l.content) (take l.step-index l.moves)
