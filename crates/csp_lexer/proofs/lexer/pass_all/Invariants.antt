use Rattle.csp_lexer.proofs.Prelude.{length, front, lexed}
use Rattle.csp_lexer.proofs.CutSoFar.{IsCutSoFar}
use Rattle.csp_lexer.proofs.lexer.pass_all.Given as goal

abbrev pub invariant-loop-rest : goal.invariant-loop-rest
invariant-loop-rest l = IsCutSoFar front (lexed l.text) l.found.placed l.at l.rest

abbrev pub decreases-loop-rest : goal.decreases-loop-rest
decreases-loop-rest l = length l.rest
