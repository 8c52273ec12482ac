use Rattle.std.proofs.Common.{◌+◌, drop, sym, ◌∙◌, arith}
use Rattle.csp_lexer.proofs.NumbersLemmas.{continued_step, number_fits, number_is_too_great}
use Rattle.csp_lexer.proofs.scan.number_token.Goals as goal

pub returns-then-number-gt-GREATEST_NUMBER : goal.returns-then-number-gt-GREATEST_NUMBER
returns-then-number-gt-GREATEST_NUMBER c =
    sym (number_is_too_great c.args.digits.now (drop (c.loop-digit.digit-index + 1) c.args.digits.now) _ (omega arith)
    (sym (continued_step c.loop-digit.number c.loop-digit.digit-index c.args.digits.now (omega arith)) ∙ c.loop-digit.invariant.1))

pub returns : goal.returns
returns c = sym (number_fits c.args.digits.now c.loop-digit.number c.loop-digit.digit-index (omega arith) c.loop-digit.invariant.0 c.loop-digit.invariant.1)
