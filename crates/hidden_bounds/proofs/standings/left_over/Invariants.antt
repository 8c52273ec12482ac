use Rattle.hidden_bounds.proofs.Prelude.{◌≡◌, take, left_from}
use Rattle.hidden_bounds.proofs.standings.left_over.Given as goal

abbrev pub invariant-loop-part : goal.invariant-loop-part
invariant-loop-part l = l.parts.items ≡ left_from 0 (take l.part l.standings)
