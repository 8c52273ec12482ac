use Rattle.csp_lexer.proofs.Prelude.{length, cut_line, line_front}
use Rattle.csp_lexer.proofs.CutSoFar.{IsCutSoFar}
use Rattle.csp_lexer.proofs.line.pass_all_on_line.Given as goal

abbrev pub invariant-loop-rest : goal.invariant-loop-rest
invariant-loop-rest l = IsCutSoFar line_front (cut_line l.fn.at l.line) l.found.placed l.at l.rest

abbrev pub decreases-loop-rest : goal.decreases-loop-rest
decreases-loop-rest l = length l.rest
