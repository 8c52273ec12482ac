use Rattle.csp_lexer.proofs.Prelude.{true-eqb, front}
use Rattle.csp_lexer.proofs.CutSoFar.{at_end, no_piece, not_empty, piece_passed}
use Rattle.csp_lexer.proofs.lexer.pass_all.Goals as goal

-- no piece stands there
pub returns-in_default-clause-none : goal.returns-in_default-clause-none
returns-in_default-clause-none c =
    let passed = rw c.in_default.is at c.in_ok-left.ensures.passed in
    no_piece front _ _ _ c.loop-rest.at c.loop-rest.rest.now passed c.loop-rest.invariant (not_empty c.loop-rest.rest.now c.loop-rest-test.ensures)

-- a piece is passed
pub loop-rest-preserved : goal.loop-rest-preserved
loop-rest-preserved c =
    let passed = rw c.in-Some.is at c.in_ok-left.ensures.passed in
    let shorter = rw c.in-Some.is at c.in_ok-left.ensures.shorter in
    piece_passed front _ _ _ c.loop-rest.at _ c.loop-rest.rest.now _ c.behind_all-at.ensures passed c.loop-rest.invariant shorter

-- nothing is left
pub returns-clause-found : goal.returns-clause-found
returns-clause-found c = at_end front _ _ _ c.loop-rest.rest.now (true-eqb _ 0 c.loop-rest-test.ensures) c.loop-rest.invariant
