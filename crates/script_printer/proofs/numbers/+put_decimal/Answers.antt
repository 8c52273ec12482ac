use Rattle.std.proofs.Common.{arith}
use Rattle.script_printer.proofs.Digits.{one_more_digit}
use Rattle.script_printer.proofs.numbers.+put_decimal.Goals as goal

pub returns : goal.returns
returns t c =
    one_more_digit c.args.text.now c.put_decimal.new.text c.put_digit-2.new.text c.args.number c.put_digit-2.result (omega arith) (omega arith)
    c.in_ok-put_decimal.ensures c.put_digit-2.ensures
