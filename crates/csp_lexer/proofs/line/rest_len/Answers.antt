use Rattle.csp_lexer.proofs.Prelude.{sym, arith, take_rest}
use Rattle.csp_lexer.proofs.CommentsLemmas.{rest_ends, rest_goes_on, rest_is_all}
use Rattle.csp_lexer.proofs.line.rest_len.Goals as goal

pub returns-then-ends_line-clause-value : goal.returns-then-ends_line-clause-value
returns-then-ends_line-clause-value c = rest_ends c.args.text.now _ c.loop-len.len (take_rest c.args.text.now c.loop-len.len) (sym c.if-ends_line.ensures) c.loop-len.invariant.0

pub loop-len-preserved : goal.loop-len-preserved
loop-len-preserved c = rest_goes_on c.args.text.now _ c.loop-len.len (take_rest c.args.text.now c.loop-len.len) (omega arith) (sym c.if-ends_line.ensures) c.loop-len.invariant.0

pub returns-clause-value : goal.returns-clause-value
returns-clause-value c = rest_is_all c.args.text.now c.loop-len.len (omega arith) c.loop-len.invariant.0
