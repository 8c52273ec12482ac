use Rattle.std.proofs.Common.{arith}
use Rattle.report.proofs.Digits.{one_more_digit}
use Rattle.report.proofs.lines.+push_number.Goals as goal

pub returns : goal.returns
returns t c =
    one_more_digit c.args.report.now c.push_number.new.report c.push_digit-2.new.report c.args.number c.push_digit-2.result (omega arith) (omega arith)
    c.in_ok-push_number.ensures c.push_digit-2.ensures
