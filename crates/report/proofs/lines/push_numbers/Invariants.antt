use Rattle.report.proofs.Prelude.{◌≡◌, ◌++◌, take, numbers_text}
use Rattle.report.proofs.lines.push_numbers.Given as goal

abbrev pub invariant-loop-number : goal.invariant-loop-number
invariant-loop-number l = l.report ≡ l.fn.report ++ numbers_text (take l.number-index l.numbers)
